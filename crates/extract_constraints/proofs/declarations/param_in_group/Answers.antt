use Rattle.std.proofs.Common.{◌∙◌}
use Rattle.class_places.proofs.Steps.{pair}
use Rattle.type_constraints.proofs.Steps.{three}
use Rattle.marked_types.proofs.Forms.{ok_as}
use Rattle.extract_constraints.specs.Declarations as de
use Rattle.extract_constraints.proofs.declarations.param_in_group.Goals as goal

pub returns : goal.returns
returns c =
    λ k told.
    ok_as c.need_maybe_if.result _ _
    (three (λ b p ls. de.need_maybe_if b p c.args.node ls) _ _ _ _ _ _ (c.in_ok-double.ensures k told) c.head_mark.ensures
    (c.in_ok-links.ensures ∙ pair (λ b ps. de.need_all_if b ps c.args.node c.args.links) _ _ _ _ (c.in_ok-several.ensures k told) (c.as_slice.ensures ∙ c.in_ok-places.ensures)))
    (c.need_maybe_if.ensures)
