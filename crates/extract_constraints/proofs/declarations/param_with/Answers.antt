use Rattle.std.proofs.Common.{ap, refl, sym, ◌∙◌}
use Rattle.extract_constraints.specs.Told.{where_of}
use Rattle.class_places.proofs.Steps.{pair}
use Rattle.extract_constraints.proofs.Numbers.{none_of, some_of}
use Rattle.marked_types.proofs.Forms.{ok_as}
use Rattle.extract_constraints.specs.Declarations as de
use Rattle.extract_constraints.proofs.declarations.param_with.Goals as goal

pub returns-then-is_empty : goal.returns-then-is_empty
returns-then-is_empty c =
    λ k told.
    let a = where_of c.args.at.now in
    sym (none_of (λ ps. de.param_with ps k a c.args.m c.args.info.now c.args.hidden.now c.args.t.now c.args.index c.args.node c.args.links) c.as_slice.result.now (sym c.if-is_empty.true ∙ c.is_empty.ensures)) ∙ ap (λ ps. de.param_with ps k a c.args.m c.args.info.now c.args.hidden.now c.args.t.now c.args.index c.args.node c.args.links) (c.as_slice.ensures ∙ c.in_ok-places.ensures)

pub returns : goal.returns
returns c =
    λ k told.
    let a = where_of c.args.at.now in
    ok_as c.hidden_params.result _ _
    (ap (de.hidden_params a c.args.t.now c.args.index c.args.node c.args.hidden.now) (c.in_ok-tied.ensures ∙ pair (λ js ls. de.family_param a c.args.m c.args.t.now c.args.index c.args.node js ls) _ _ _ _ (c.family.ensures k told) (c.in_ok-grouped.ensures k told))
    ∙ sym (some_of (λ ps. de.param_with ps k a c.args.m c.args.info.now c.args.hidden.now c.args.t.now c.args.index c.args.node c.args.links) (de.hidden_params a c.args.t.now c.args.index c.args.node c.args.hidden.now (de.family_param a c.args.m c.args.t.now c.args.index c.args.node (k.ties.family c.args.m) (de.param_in_group k a c.args.m c.args.info.now c.args.t.now c.args.node c.args.links))) (λ q qs. refl) c.as_slice.result.now (sym c.if-is_empty.false ∙ c.is_empty.ensures)) ∙ ap (λ ps. de.param_with ps k a c.args.m c.args.info.now c.args.hidden.now c.args.t.now c.args.index c.args.node c.args.links) (c.as_slice.ensures ∙ c.in_ok-places.ensures))
    (c.hidden_params.ensures)
