use Rattle.std.proofs.Common.{◌+◌, drop, refl, sym, ap, ◌∙◌}
use Rattle.std.specs.Prelude.{◌&&◌, not, slice_index_or as get_or}
use Rattle.type_kinds.specs.Members.{method_at}
use Rattle.extract_constraints.specs.Groups as spec
use Rattle.std.specs.List.{list_any}
use Rattle.type_constraints.proofs.Steps.{front, some_end, some_hit, some_next}
use Rattle.extract_constraints.proofs.groups.has_double.Goals as goal

pub loop-j-init : goal.loop-j-init
loop-j-init c =
    λ k told.
    ap (list_any (λ j. not (spec.are_tied k c.args.m j) && (not (spec.is_among (k.ties.family c.args.m) j) && spec.have_one_erasure_with k c.args.info.now (method_at c.args.at.now.reader.q.world.now j)))) (c.group-others.ensures k told)

pub returns-then-branch : goal.returns-then-branch
returns-then-branch c =
    λ k told.
    some_hit (λ j. not (spec.are_tied k c.args.m j) && (not (spec.is_among (k.ties.family c.args.m) j) && spec.have_one_erasure_with k c.args.info.now (method_at c.args.at.now.reader.q.world.now j))) (list_any (λ j. not (spec.are_tied k c.args.m j) && (not (spec.is_among (k.ties.family c.args.m) j) && spec.have_one_erasure_with k c.args.info.now (method_at c.args.at.now.reader.q.world.now j)))) (λ x xs. refl) (drop c.loop-j.j-index c.group-others.result.now) (drop (c.loop-j.j-index + 1) c.group-others.result.now) (get_or c.group-others.result.now c.loop-j.j-index 0) _
    (front c.group-others.result.now c.loop-j.j-index c.loop-j-test.true) (sym (c.in_ok-is_double.ensures k told) ∙ c.if-branch.true) (c.loop-j.invariant k told)

pub loop-j-preserved : goal.loop-j-preserved
loop-j-preserved c =
    λ k told.
    some_next (λ j. not (spec.are_tied k c.args.m j) && (not (spec.is_among (k.ties.family c.args.m) j) && spec.have_one_erasure_with k c.args.info.now (method_at c.args.at.now.reader.q.world.now j))) (list_any (λ j. not (spec.are_tied k c.args.m j) && (not (spec.is_among (k.ties.family c.args.m) j) && spec.have_one_erasure_with k c.args.info.now (method_at c.args.at.now.reader.q.world.now j)))) (λ x xs. refl) (drop c.loop-j.j-index c.group-others.result.now) (drop (c.loop-j.j-index + 1) c.group-others.result.now) (get_or c.group-others.result.now c.loop-j.j-index 0) _
    (front c.group-others.result.now c.loop-j.j-index c.loop-j-test.true) (sym (c.in_ok-is_double.ensures k told) ∙ c.if-branch.false) (c.loop-j.invariant k told)

pub returns : goal.returns
returns c =
    λ k told.
    some_end (list_any (λ j. not (spec.are_tied k c.args.m j) && (not (spec.is_among (k.ties.family c.args.m) j) && spec.have_one_erasure_with k c.args.info.now (method_at c.args.at.now.reader.q.world.now j)))) refl c.group-others.result.now c.loop-j.j-index _ c.loop-j-test.false (c.loop-j.invariant k told)
