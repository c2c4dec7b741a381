use Rattle.class_world.proofs.Weights.{weight, weights}
use Rattle.class_world.proofs.types.+is_put.Given as goal

abbrev pub decreases-is_put : goal.decreases-is_put
decreases-is_put l = weight l.s.now

abbrev pub decreases-are_put : goal.decreases-are_put
decreases-are_put l = weights l.xs.now
