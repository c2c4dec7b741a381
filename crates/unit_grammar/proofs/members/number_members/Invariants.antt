use Rattle.unit_grammar.proofs.Walks.{MembersWalk}
use Rattle.unit_grammar.proofs.members.number_members.Given as goal

abbrev pub invariant-loop-i : goal.invariant-loop-i
invariant-loop-i l = MembersWalk l.first l.initial.xs l.i l.xs l.next
