use Rattle.class_world.proofs.Weights.{weight, weights}
use Rattle.signature_numbers.proofs.finds.+find.Given as goal

abbrev pub decreases-find_type : goal.decreases-find_type
decreases-find_type l = weight l.t.now

abbrev pub decreases-find_types : goal.decreases-find_types
decreases-find_types l = weights l.ts.now
