use Rattle.std.specs.Option.{option_map}
use Rattle.std.proofs.Common.{ap, sym, ◌∙◌}
use Rattle.java_core.specs.View.{plain}
use Rattle.class_places.proofs.Steps.{pair}
use Rattle.extract_constraints.specs.Told.{where_of}
use Rattle.extract_constraints.specs.Flows as fl
use Rattle.extract_constraints.specs.Links as li
use Rattle.marked_types.proofs.Forms.{ok_as}
use Rattle.extract_constraints.proofs.stmts.returned.Goals as goal

pub returns-in_ok-links-in-Some : goal.returns-in_ok-links-in-Some
returns-in_ok-links-in-Some c =
    λ k told.
    let a = where_of c.args.at.now in
    ok_as c.value_to_maybe.result _ _
    (pair (λ o l. fl.value_to_maybe k a c.args.locals.now (plain c.in-Some.x) o l) _ _ _ _ c.given_mark.ensures (c.in_ok-links-in-Some.ensures k told)
    ∙ sym (ap (λ o. li.returned k a (option_map plain o) c.args.locals.now c.args.links) c.in-Some.is))
    (c.value_to_maybe.ensures k told)
