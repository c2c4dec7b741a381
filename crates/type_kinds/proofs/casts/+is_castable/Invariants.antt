use Rattle.class_world.proofs.Weights.{weight}
use Rattle.type_kinds.proofs.casts.+is_castable.Given as goal

abbrev pub decreases-is_castable : goal.decreases-is_castable
decreases-is_castable l = weight l.s.now
