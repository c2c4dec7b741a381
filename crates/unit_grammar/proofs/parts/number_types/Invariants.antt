use Rattle.unit_grammar.proofs.Walks.{TypesWalk}
use Rattle.unit_grammar.proofs.parts.number_types.Given as goal

abbrev pub invariant-loop-i : goal.invariant-loop-i
invariant-loop-i l = TypesWalk l.first l.initial.xs l.i l.xs l.next
