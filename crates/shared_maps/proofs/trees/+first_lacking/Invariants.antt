use Rattle.shared_maps.proofs.trees.+first_lacking.Given as goal

abbrev pub decreases-first_lacking : goal.decreases-first_lacking
decreases-first_lacking l = l.levels
