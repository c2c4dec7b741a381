use Rattle.std.proofs.Common.{◌+◌, drop, refl, sym, ◌∙◌}
use Rattle.std.specs.Prelude.{◌&&◌, ◌||◌, slice_index_or as get_or}
use Rattle.std.specs.List.{list_any}
use Rattle.type_places.specs.Changes.{is_param}
use Rattle.type_constraints.specs.Asked.{asked}
use Rattle.type_constraints.specs.Declarations as de
use Rattle.type_constraints.proofs.Steps.{front, some_end, some_hit, some_next}
use Rattle.type_constraints.proofs.declarations.some_hidden_by_change.Goals as goal

pub returns-then-branch : goal.returns-then-branch
returns-then-branch c =
    λ f are ts ties.
    let a = asked c.args.at.now f ts in
    some_hit (λ k. (is_param c.args.at.now.change.now c.args.m c.args.at.now.change.now.index || is_param c.args.at.now.change.now k c.args.at.now.change.now.index) && de.is_hidden a c.args.info.now k) (list_any (λ k. (is_param c.args.at.now.change.now c.args.m c.args.at.now.change.now.index || is_param c.args.at.now.change.now k c.args.at.now.change.now.index) && de.is_hidden a c.args.info.now k)) (λ x xs. refl) (drop c.loop-k.k-index c.args.above.now) (drop (c.loop-k.k-index + 1) c.args.above.now) (get_or c.args.above.now c.loop-k.k-index 0) _ (front c.args.above.now c.loop-k.k-index c.loop-k-test.true) (sym (c.in_ok-is_hidden_by_change.ensures f are ts ties) ∙ c.if-branch.true) (c.loop-k.invariant f are ts ties)

pub loop-k-preserved : goal.loop-k-preserved
loop-k-preserved c =
    λ f are ts ties.
    let a = asked c.args.at.now f ts in
    some_next (λ k. (is_param c.args.at.now.change.now c.args.m c.args.at.now.change.now.index || is_param c.args.at.now.change.now k c.args.at.now.change.now.index) && de.is_hidden a c.args.info.now k) (list_any (λ k. (is_param c.args.at.now.change.now c.args.m c.args.at.now.change.now.index || is_param c.args.at.now.change.now k c.args.at.now.change.now.index) && de.is_hidden a c.args.info.now k)) (λ x xs. refl) (drop c.loop-k.k-index c.args.above.now) (drop (c.loop-k.k-index + 1) c.args.above.now) (get_or c.args.above.now c.loop-k.k-index 0) _ (front c.args.above.now c.loop-k.k-index c.loop-k-test.true) (sym (c.in_ok-is_hidden_by_change.ensures f are ts ties) ∙ c.if-branch.false) (c.loop-k.invariant f are ts ties)

pub returns : goal.returns
returns c =
    λ f are ts ties.
    let a = asked c.args.at.now f ts in
    some_end (list_any (λ k. (is_param c.args.at.now.change.now c.args.m c.args.at.now.change.now.index || is_param c.args.at.now.change.now k c.args.at.now.change.now.index) && de.is_hidden a c.args.info.now k)) refl c.args.above.now c.loop-k.k-index _ c.loop-k-test.false (c.loop-k.invariant f are ts ties)
