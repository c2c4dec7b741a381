use Rattle.unit_grammar.proofs.Walks.{ParamsWalk}
use Rattle.unit_grammar.proofs.parts.number_params.Given as goal

abbrev pub invariant-loop-i : goal.invariant-loop-i
invariant-loop-i l = ParamsWalk l.first l.initial.xs l.i l.xs l.next
