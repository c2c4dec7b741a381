use Rattle.class_world.proofs.Weights.{weight, weights}
use Rattle.class_world.proofs.types.+same.Given as goal

abbrev pub decreases-is_same : goal.decreases-is_same
decreases-is_same l = weight l.s.now

abbrev pub decreases-are_same : goal.decreases-are_same
decreases-are_same l = weights l.xs.now
