use Rattle.class_world.proofs.Weights.{weight, weights}
use Rattle.unchecked_ops.proofs.casting.+occurs.Given as goal

abbrev pub decreases-occurs : goal.decreases-occurs
decreases-occurs l = weight l.t.now

abbrev pub decreases-occurs_in : goal.decreases-occurs_in
decreases-occurs_in l = weights l.ts.now
