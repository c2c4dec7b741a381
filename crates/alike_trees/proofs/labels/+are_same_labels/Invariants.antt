use Rattle.std.proofs.Common.{length}
use Rattle.alike_trees.proofs.labels.+are_same_labels.Given as goal

abbrev pub decreases-are_same_labels : goal.decreases-are_same_labels
decreases-are_same_labels l = length l.old.now
