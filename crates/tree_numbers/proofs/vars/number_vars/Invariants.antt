use Rattle.tree_numbers.proofs.Walks.{VarsWalk}
use Rattle.tree_numbers.proofs.vars.number_vars.Given as goal

abbrev pub invariant-loop-i : goal.invariant-loop-i
invariant-loop-i l = VarsWalk l.first l.initial.xs l.i l.xs l.next
