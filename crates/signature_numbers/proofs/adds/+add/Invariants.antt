use Rattle.class_world.proofs.Weights.{weight, weights}
use Rattle.signature_numbers.proofs.adds.+add.Given as goal

abbrev pub decreases-add_type : goal.decreases-add_type
decreases-add_type l = weight l.t.now

abbrev pub decreases-add_types : goal.decreases-add_types
decreases-add_types l = weights l.ts.now
