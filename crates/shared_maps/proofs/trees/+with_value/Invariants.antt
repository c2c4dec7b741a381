use Rattle.shared_maps.proofs.trees.+with_value.Given as goal

abbrev pub decreases-with_value : goal.decreases-with_value
decreases-with_value l = l.levels
