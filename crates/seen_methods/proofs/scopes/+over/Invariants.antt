use Rattle.class_world.proofs.Weights.{weight, weights}
use Rattle.seen_methods.proofs.scopes.+over.Given as goal

abbrev pub decreases-is_over : goal.decreases-is_over
decreases-is_over l = weight l.t.now

abbrev pub decreases-are_over : goal.decreases-are_over
decreases-are_over l = weights l.ts.now
