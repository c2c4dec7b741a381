use Rattle.std.proofs.Common.{ap, sym, ◌∙◌}
use Rattle.extract_constraints.specs.Told.{where_of}
use Rattle.std.specs.Option.{option_copied}
use Rattle.class_places.proofs.Steps.{pair}
use Rattle.marked_types.proofs.Forms.{ok_as}
use Rattle.extract_constraints.specs.Arguments.{call_of}
use Rattle.extract_constraints.specs.Arguments as ar
use Rattle.extract_constraints.proofs.arguments.candidate_alike.Goals as goal

pub returns-in_ok-t-in-Some : goal.returns-in_ok-t-in-Some
returns-in_ok-t-in-Some c =
    λ k told.
    let a = where_of c.args.at.now in
    let call = call_of c.args.call.now in
    ok_as c.takes_alike.result _ _
    (ap (ar.takes_alike k c.args.old.now c.args.s.now c.args.place) (c.in_ok-t-in-Some.ensures ∙ pair (λ s ts. ar.param_seen s ts c.args.index) _ _ _ _ (c.in_ok-seen-in-Some.ensures k told) c.as_slice.ensures) ∙ sym (ap (λ o. ar.candidate_alike k call c.args.old.now c.args.s.now c.args.place c.args.index (option_copied o)) c.in-Some.is))
    (c.takes_alike.ensures k told)
