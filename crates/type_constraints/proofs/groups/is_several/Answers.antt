use Rattle.std.proofs.Common.{◌+◌, drop, refl, sym, ap, ◌∙◌}
use Rattle.std.specs.Prelude.{◌&&◌, not, slice_index_or as get_or}
use Rattle.std.specs.List.{list_any}
use Rattle.type_kinds.specs.Members.{method_at}
use Rattle.type_constraints.specs.Arguments as ar
use Rattle.type_constraints.specs.Asked.{asked}
use Rattle.type_constraints.proofs.Steps.{front, some_end, some_hit, some_next}
use Rattle.type_constraints.proofs.groups.is_several.Goals as goal

pub loop-k-init : goal.loop-k-init
loop-k-init c =
    λ f are ts ties.
    let a = asked c.args.at.now f ts in
    ap (list_any (λ k. not (ar.are_tied a c.args.m k) && ar.differ f c.args.info.now (method_at c.args.at.now.q.world.now k))) (c.group-others.ensures f are ts ties)

pub returns-then-branch : goal.returns-then-branch
returns-then-branch c =
    λ f are ts ties.
    let a = asked c.args.at.now f ts in
    some_hit (λ k. not (ar.are_tied a c.args.m k) && ar.differ f c.args.info.now (method_at c.args.at.now.q.world.now k)) (list_any (λ k. not (ar.are_tied a c.args.m k) && ar.differ f c.args.info.now (method_at c.args.at.now.q.world.now k))) (λ x xs. refl) (drop c.loop-k.k-index c.group-others.result.now) (drop (c.loop-k.k-index + 1) c.group-others.result.now) (get_or c.group-others.result.now c.loop-k.k-index 0) _ (front c.group-others.result.now c.loop-k.k-index c.loop-k-test.true) (sym (c.in_ok-is_another.ensures f are ts ties) ∙ c.if-branch.true) (c.loop-k.invariant f are ts ties)

pub loop-k-preserved : goal.loop-k-preserved
loop-k-preserved c =
    λ f are ts ties.
    let a = asked c.args.at.now f ts in
    some_next (λ k. not (ar.are_tied a c.args.m k) && ar.differ f c.args.info.now (method_at c.args.at.now.q.world.now k)) (list_any (λ k. not (ar.are_tied a c.args.m k) && ar.differ f c.args.info.now (method_at c.args.at.now.q.world.now k))) (λ x xs. refl) (drop c.loop-k.k-index c.group-others.result.now) (drop (c.loop-k.k-index + 1) c.group-others.result.now) (get_or c.group-others.result.now c.loop-k.k-index 0) _ (front c.group-others.result.now c.loop-k.k-index c.loop-k-test.true) (sym (c.in_ok-is_another.ensures f are ts ties) ∙ c.if-branch.false) (c.loop-k.invariant f are ts ties)

pub returns : goal.returns
returns c =
    λ f are ts ties.
    let a = asked c.args.at.now f ts in
    some_end (list_any (λ k. not (ar.are_tied a c.args.m k) && ar.differ f c.args.info.now (method_at c.args.at.now.q.world.now k))) refl c.group-others.result.now c.loop-k.k-index _ c.loop-k-test.false (c.loop-k.invariant f are ts ties)
