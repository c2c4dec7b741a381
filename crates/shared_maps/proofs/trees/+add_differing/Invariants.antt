use Rattle.shared_maps.proofs.trees.+add_differing.Given as goal

abbrev pub decreases-add_differing : goal.decreases-add_differing
decreases-add_differing l = l.levels
