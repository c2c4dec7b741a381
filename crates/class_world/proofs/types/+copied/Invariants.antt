use Rattle.std.proofs.Common.{◌≡◌}
use Rattle.std.specs.Prelude.{take}
use Rattle.class_world.proofs.Weights.{weight, weights}
use Rattle.class_world.proofs.types.+copied.Given as goal

abbrev pub decreases-copied : goal.decreases-copied
decreases-copied l = weight l.t.now

abbrev pub decreases-all_copied : goal.decreases-all_copied
decreases-all_copied l = weights l.xs.now

abbrev pub invariant-all_copied-loop-x : goal.invariant-all_copied-loop-x
invariant-all_copied-loop-x l = l.ys ≡ take l.x-index l.xs
