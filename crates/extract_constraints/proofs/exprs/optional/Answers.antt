use Rattle.std.proofs.Common.{sym, ap}
use Rattle.std.specs.Option.{option_map}
use Rattle.java_core.specs.View.{plain}
use Rattle.extract_constraints.specs.Links as spec
use Rattle.extract_constraints.specs.Told.{where_of}
use Rattle.marked_types.proofs.Forms.{ok_as}
use Rattle.extract_constraints.proofs.exprs.optional.Goals as goal

pub returns-in-Some : goal.returns-in-Some
returns-in-Some c =
    λ k told.
    ok_as c.value.result _ _
    (sym (ap (λ o. spec.optional k (where_of c.args.at.now) c.args.locals.now (option_map plain o) c.args.links) c.in-Some.is))
    (c.value.ensures k told)
