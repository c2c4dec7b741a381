use Rattle.std.proofs.Common.{ap, sym, ◌∙◌}
use Rattle.class_places.proofs.Steps.{pair}
use Rattle.type_constraints.proofs.Steps.{three}
use Rattle.marked_types.proofs.Forms.{ok_as}
use Rattle.extract_constraints.specs.Arguments as ar
use Rattle.marked_types.specs.Marked as mk
use Rattle.extract_constraints.proofs.arguments.takes_type.Goals as goal

pub returns-then-is_number : goal.returns-then-is_number
returns-then-is_number c =
    λ k told.
    c.same.ensures ∙ pair ar.same _ _ _ _ (c.fits-before.ensures k told) (c.in_ok-behind.ensures k told) ∙ ap (λ b. ar.takes_with b k c.args.old.now c.args.s.now c.args.place c.args.t.now) (sym c.if-is_number.true ∙ c.is_number.ensures ∙ ap (λ h. mk.is_number h c.args.place) c.head_mark.ensures)

pub returns : goal.returns
returns c =
    λ k told.
    ok_as c.as_argument.result _ _
    (three (λ b o xs. ar.as_argument k b c.args.s.now c.args.place o xs) _ _ _ _ _ _ (c.fits-before.ensures k told) c.class_number.ensures c.args_of.ensures ∙ ap (λ b. ar.takes_with b k c.args.old.now c.args.s.now c.args.place c.args.t.now) (sym c.if-is_number.false ∙ c.is_number.ensures ∙ ap (λ h. mk.is_number h c.args.place) c.head_mark.ensures))
    (c.as_argument.ensures k told)
