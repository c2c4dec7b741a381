use Rattle.left_out.proofs.Steps.{Passed}
use Rattle.left_out.proofs.first.first_left_out.Given as goal

abbrev pub invariant-loop-i : goal.invariant-loop-i
invariant-loop-i l = Passed l.text l.tokens l.i l.before
