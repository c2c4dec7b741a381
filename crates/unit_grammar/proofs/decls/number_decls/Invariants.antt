use Rattle.unit_grammar.proofs.Walks.{DeclsWalk}
use Rattle.unit_grammar.proofs.decls.number_decls.Given as goal

abbrev pub invariant-loop-i : goal.invariant-loop-i
invariant-loop-i l = DeclsWalk l.first l.initial.xs l.i l.xs l.next
