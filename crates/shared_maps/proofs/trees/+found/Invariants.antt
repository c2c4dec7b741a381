use Rattle.shared_maps.proofs.trees.+found.Given as goal

abbrev pub decreases-found : goal.decreases-found
decreases-found l = l.levels
