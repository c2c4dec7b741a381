use Rattle.class_world.proofs.Weights.{weight}
use Rattle.type_kinds.proofs.casts.+is_erased_sub.Given as goal

abbrev pub decreases-is_erased_sub : goal.decreases-is_erased_sub
decreases-is_erased_sub l = weight l.s.now
