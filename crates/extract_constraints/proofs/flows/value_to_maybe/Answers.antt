use Rattle.std.specs.Option.{option_copied}
use Rattle.std.proofs.Common.{ap, sym}
use Rattle.java_core.specs.View.{plain}
use Rattle.extract_constraints.specs.Told.{where_of}
use Rattle.extract_constraints.specs.Flows as fl
use Rattle.marked_types.proofs.Forms.{ok_as}
use Rattle.extract_constraints.proofs.flows.value_to_maybe.Goals as goal

pub returns-in-Some : goal.returns-in-Some
returns-in-Some c =
    λ k told.
    let a = where_of c.args.at.now in
    ok_as c.value_to.result _ _
    (sym (ap (λ o. fl.value_to_maybe k a c.args.locals.now (plain c.args.x.now) (option_copied o) c.args.links) c.in-Some.is))
    (c.value_to.ensures k told)
