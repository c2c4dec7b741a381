use Rattle.shared_maps.proofs.trees.+united.Given as goal

abbrev pub decreases-united : goal.decreases-united
decreases-united l = l.levels
