use Rattle.std.proofs.Common.{ℕ, ◌<◌}
use Rattle.class_world.specs.Ordered.{IsSingleClass}
use Rattle.class_world.proofs.below_two.search.Given as goal

abbrev pub invariant-loop-c : goal.invariant-loop-c
invariant-loop-c l = (d : ℕ) → d < l.c → IsSingleClass l.w d
