use Rattle.class_world.proofs.Weights.{weight}
use Rattle.class_world.proofs.subtypes.+is_sub.Given as goal

abbrev pub decreases-is_sub : goal.decreases-is_sub
decreases-is_sub l = weight l.s.now
