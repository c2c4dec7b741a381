use Rattle.tree_numbers.proofs.Walks.{LabelsWalk}
use Rattle.tree_numbers.proofs.vars.number_labels.Given as goal

abbrev pub invariant-loop-i : goal.invariant-loop-i
invariant-loop-i l = LabelsWalk l.first l.initial.es l.i l.es l.next
