use Rattle.std.proofs.Common.{◌+◌, drop, refl, sym, ap, ◌∙◌}
use Rattle.std.specs.Prelude.{◌&&◌, slice_index_or as get_or}
use Rattle.type_kinds.specs.Members.{method_at}
use Rattle.extract_constraints.specs.Receivers as spec
use Rattle.std.specs.List.{list_any}
use Rattle.type_constraints.proofs.Steps.{front, some_end, some_hit, some_next}
use Rattle.extract_constraints.proofs.receivers.is_of_object.Goals as goal

pub loop-j-init : goal.loop-j-init
loop-j-init c =
    λ k told.
    ap (list_any (λ j. spec.is_public_method (method_at c.args.at.now.reader.q.world.now j) && spec.is_one k c.args.m j)) (c.methods_of-methods.ensures)

pub returns-then-is_public_one : goal.returns-then-is_public_one
returns-then-is_public_one c =
    λ k told.
    some_hit (λ j. spec.is_public_method (method_at c.args.at.now.reader.q.world.now j) && spec.is_one k c.args.m j) (list_any (λ j. spec.is_public_method (method_at c.args.at.now.reader.q.world.now j) && spec.is_one k c.args.m j)) (λ x xs. refl) (drop c.loop-j.j-index c.methods_of-methods.result.now) (drop (c.loop-j.j-index + 1) c.methods_of-methods.result.now) (get_or c.methods_of-methods.result.now c.loop-j.j-index 0) _
    (front c.methods_of-methods.result.now c.loop-j.j-index c.loop-j-test.true) (sym (c.is_public_one.ensures k told) ∙ c.if-is_public_one.true) (c.loop-j.invariant k told)

pub loop-j-preserved : goal.loop-j-preserved
loop-j-preserved c =
    λ k told.
    some_next (λ j. spec.is_public_method (method_at c.args.at.now.reader.q.world.now j) && spec.is_one k c.args.m j) (list_any (λ j. spec.is_public_method (method_at c.args.at.now.reader.q.world.now j) && spec.is_one k c.args.m j)) (λ x xs. refl) (drop c.loop-j.j-index c.methods_of-methods.result.now) (drop (c.loop-j.j-index + 1) c.methods_of-methods.result.now) (get_or c.methods_of-methods.result.now c.loop-j.j-index 0) _
    (front c.methods_of-methods.result.now c.loop-j.j-index c.loop-j-test.true) (sym (c.is_public_one.ensures k told) ∙ c.if-is_public_one.false) (c.loop-j.invariant k told)

pub returns : goal.returns
returns c =
    λ k told.
    some_end (list_any (λ j. spec.is_public_method (method_at c.args.at.now.reader.q.world.now j) && spec.is_one k c.args.m j)) refl c.methods_of-methods.result.now c.loop-j.j-index _ c.loop-j-test.false (c.loop-j.invariant k told)
