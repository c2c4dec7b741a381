use Rattle.std.proofs.Common.{ap, refl, sym, ◌∙◌}
use Rattle.extract_constraints.specs.Told.{where_of}
use Rattle.extract_constraints.proofs.Numbers.{none_of, some_of}
use Rattle.marked_types.proofs.Forms.{ok_as}
use Rattle.extract_constraints.specs.Declarations as de
use Rattle.extract_constraints.proofs.declarations.result_with.Goals as goal

pub returns-then-is_empty : goal.returns-then-is_empty
returns-then-is_empty c =
    λ k told.
    let a = where_of c.args.at.now in
    sym (none_of (λ ps. de.result_with ps k a c.args.m c.args.hidden.now c.args.t.now c.args.node c.args.links) c.as_slice.result.now (sym c.if-is_empty.true ∙ c.is_empty.ensures)) ∙ ap (λ ps. de.result_with ps k a c.args.m c.args.hidden.now c.args.t.now c.args.node c.args.links) (c.as_slice.ensures ∙ c.in_ok-places.ensures)

pub returns : goal.returns
returns c =
    λ k told.
    let a = where_of c.args.at.now in
    ok_as c.for_hidden.result _ _
    (ap (de.for_hidden k a c.args.t.now c.args.node c.args.hidden.now) (c.in_ok-placed.ensures k told ∙ ap (λ js. de.for_overridden k a c.args.t.now c.args.node js js c.args.links) (c.as_slice-2.ensures ∙ c.in_ok-overridden.ensures k told))
    ∙ sym (some_of (λ ps. de.result_with ps k a c.args.m c.args.hidden.now c.args.t.now c.args.node c.args.links) (de.for_hidden k a c.args.t.now c.args.node c.args.hidden.now (de.for_overridden k a c.args.t.now c.args.node (de.overridden_by k c.args.m) (de.overridden_by k c.args.m) c.args.links)) (λ q qs. refl) c.as_slice.result.now (sym c.if-is_empty.false ∙ c.is_empty.ensures)) ∙ ap (λ ps. de.result_with ps k a c.args.m c.args.hidden.now c.args.t.now c.args.node c.args.links) (c.as_slice.ensures ∙ c.in_ok-places.ensures))
    (c.for_hidden.ensures k told)
