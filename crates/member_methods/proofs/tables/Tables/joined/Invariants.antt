use Rattle.member_methods.specs.Tables.{IsMapOf}
use Rattle.member_methods.proofs.Maps.{IsJoinedFirst}
use Rattle.member_methods.proofs.tables.Tables.joined.Given as goal

abbrev pub invariant-loop-key : goal.invariant-loop-key
invariant-loop-key l = IsMapOf l.fn.self l.self l.both (IsJoinedFirst l.fn.self l.fn.map l.fn.more l.key-items l.key-index)
