use Rattle.std.specs.Option.{option_map}
use Rattle.std.proofs.Common.{ap, sym, ◌∙◌}
use Rattle.java_core.specs.View.{plain}
use Rattle.extract_constraints.specs.Told.{where_of}
use Rattle.extract_constraints.specs.Flows as fl
use Rattle.extract_constraints.specs.Links as li
use Rattle.marked_types.proofs.Forms.{ok_as}
use Rattle.extract_constraints.proofs.stmts.init_to.Goals as goal

pub returns-in_ok-links-in-Some : goal.returns-in_ok-links-in-Some
returns-in_ok-links-in-Some c =
    λ k told.
    let a = where_of c.args.at.now in
    ok_as c.declare.result _ _
    (ap (fl.declare k a c.args.locals.now (plain c.in-Some.x) c.args.t.now) (c.in_ok-links-in-Some.ensures k told)
    ∙ sym (ap (λ o. li.init_to k a c.args.locals.now (option_map plain o) c.args.t.now c.args.links) c.in-Some.is))
    (c.declare.ensures k told)
