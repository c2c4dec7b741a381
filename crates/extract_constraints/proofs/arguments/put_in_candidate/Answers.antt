use Rattle.std.proofs.Common.{ap, sym, ◌∙◌}
use Rattle.extract_constraints.specs.Told.{where_of}
use Rattle.std.specs.Option.{option_copied}
use Rattle.class_places.proofs.Steps.{pair}
use Rattle.marked_types.proofs.Forms.{ok_as}
use Rattle.extract_constraints.specs.Arguments.{call_of}
use Rattle.extract_constraints.specs.Arguments as ar
use Rattle.extract_constraints.proofs.arguments.put_in_candidate.Goals as goal

pub returns-in_ok-seen-in-Some : goal.returns-in_ok-seen-in-Some
returns-in_ok-seen-in-Some c =
    λ k told.
    let a = where_of c.args.at.now in
    let call = call_of c.args.call.now in
    ok_as c.put_in_params.result _ _
    (pair (λ s ts. ar.put_in_params s call.node ts c.args.links) _ _ _ _ (c.in_ok-seen-in-Some.ensures k told) c.as_slice.ensures ∙ sym (ap (λ o. ar.put_in_candidate k call (option_copied o) c.args.links) c.in-Some.is))
    (c.put_in_params.ensures)
