use Rattle.unit_grammar.proofs.Walks.{ImportsWalk}
use Rattle.unit_grammar.proofs.decls.number_imports.Given as goal

abbrev pub invariant-loop-i : goal.invariant-loop-i
invariant-loop-i l = ImportsWalk l.first l.initial.xs l.i l.xs l.next
