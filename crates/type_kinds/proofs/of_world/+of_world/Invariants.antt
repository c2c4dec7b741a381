use Rattle.class_world.proofs.Weights.{weight, weights}
use Rattle.type_kinds.proofs.of_world.+of_world.Given as goal

abbrev pub decreases-is_of_world : goal.decreases-is_of_world
decreases-is_of_world l = weight l.t.now

abbrev pub decreases-are_args : goal.decreases-are_args
decreases-are_args l = weights l.xs.now
