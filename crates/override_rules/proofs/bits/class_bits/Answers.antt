use Rattle.std.proofs.Common.{◌+◌, ◌/◌, ap, ◌∙◌}
use Rattle.class_world.proofs.Meets.{zeros_bare}
use Rattle.override_rules.proofs.Clauses.{class_within}
use Rattle.override_rules.proofs.bits.class_bits.Goals as goal

pub set_classes-requires-clause-within : goal.set_classes-requires-clause-within
set_classes-requires-clause-within c =
    class_within c.args.w.now c.args.types.now c.as_mut_slice.result.now _ c.requires (c.as_mut_slice.ensures.value ∙ c.in_ok-words.ensures.items_if_clones_equal (λ y e. e)) (ap (λ n. n / 64 + 1) c.len.ensures)

pub set_classes-requires-clause-none : goal.set_classes-requires-clause-none
set_classes-requires-clause-none c = zeros_bare c.as_mut_slice.result.now _ (c.as_mut_slice.ensures.value ∙ c.in_ok-words.ensures.items_if_clones_equal (λ y e. e))
