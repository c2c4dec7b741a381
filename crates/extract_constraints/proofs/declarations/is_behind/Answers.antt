use Rattle.std.proofs.Common.{drop, refl, sym, ◌+◌, ◌∙◌}
use Rattle.std.specs.Prelude.{not, slice_index_or as get_or, ◌&&◌, ◌==◌}
use Rattle.std.specs.List.{list_any}
use Rattle.type_constraints.proofs.Steps.{front, some_end, some_hit, some_next}
use Rattle.extract_constraints.proofs.declarations.is_behind.Goals as goal

pub returns-then-stands_before : goal.returns-then-stands_before
returns-then-stands_before c =
    λ k told.
    some_hit (λ m. not (m == c.args.j) && (k.ties.overrides m c.args.j && not (k.ties.overrides c.args.j m))) (list_any (λ m. not (m == c.args.j) && (k.ties.overrides m c.args.j && not (k.ties.overrides c.args.j m)))) (λ x xs. refl) (drop c.loop-m.m-index c.args.overridden.now) (drop (c.loop-m.m-index + 1) c.args.overridden.now) (get_or c.args.overridden.now c.loop-m.m-index 0) _ (front c.args.overridden.now c.loop-m.m-index c.loop-m-test.true) (sym (c.stands_before.ensures k told) ∙ c.if-stands_before.true) (c.loop-m.invariant k told)

pub loop-m-preserved : goal.loop-m-preserved
loop-m-preserved c =
    λ k told.
    some_next (λ m. not (m == c.args.j) && (k.ties.overrides m c.args.j && not (k.ties.overrides c.args.j m))) (list_any (λ m. not (m == c.args.j) && (k.ties.overrides m c.args.j && not (k.ties.overrides c.args.j m)))) (λ x xs. refl) (drop c.loop-m.m-index c.args.overridden.now) (drop (c.loop-m.m-index + 1) c.args.overridden.now) (get_or c.args.overridden.now c.loop-m.m-index 0) _ (front c.args.overridden.now c.loop-m.m-index c.loop-m-test.true) (sym (c.stands_before.ensures k told) ∙ c.if-stands_before.false) (c.loop-m.invariant k told)

pub returns : goal.returns
returns c =
    λ k told.
    some_end (list_any (λ m. not (m == c.args.j) && (k.ties.overrides m c.args.j && not (k.ties.overrides c.args.j m)))) refl c.args.overridden.now c.loop-m.m-index _ c.loop-m-test.false (c.loop-m.invariant k told)
