use Rattle.member_methods.proofs.Maps.{AreOfFirst}
use Rattle.member_methods.proofs.tables.Tables.all_listed.Given as goal

abbrev pub invariant-loop-list : goal.invariant-loop-list
invariant-loop-list l = AreOfFirst l.fn.self.lists l.list-items l.list-index l.numbers.items
