use Rattle.std.proofs.Common.{Some, ap, ◌∙◌}
use Rattle.extract_constraints.specs.Told.{where_of}
use Rattle.class_places.proofs.Steps.{pair}
use Rattle.marked_types.proofs.Forms.{ok_as}
use Rattle.extract_constraints.specs.Arguments.{call_of}
use Rattle.extract_constraints.specs.Arguments as ar
use Rattle.extract_constraints.proofs.arguments.param_type.Goals as goal

pub returns-in_ok-copied-in-Some : goal.returns-in_ok-copied-in-Some
returns-in_ok-copied-in-Some c =
    λ k told.
    let a = where_of c.args.at.now in
    let call = call_of c.args.call.now in
    ap Some c.in_ok-copied-in-Some.ensures ∙ ap (λ o. ar.or_seen o (ar.param_seen (ar.seen_method k call.marked call.info) call.info.params c.args.index)) c.in-Some.ensures

pub returns-in_ok-seen-in-None : goal.returns-in_ok-seen-in-None
returns-in_ok-seen-in-None c =
    λ k told.
    let a = where_of c.args.at.now in
    let call = call_of c.args.call.now in
    ok_as c.param_seen.result _ _
    (pair (λ s ts. ar.param_seen s ts c.args.index) _ _ _ _ (c.in_ok-seen-in-None.ensures k told) c.as_slice.ensures ∙ ap (λ o. ar.or_seen o (ar.param_seen (ar.seen_method k call.marked call.info) call.info.params c.args.index)) c.in-None.ensures)
    (c.param_seen.ensures)
