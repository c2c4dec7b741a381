use Rattle.std.proofs.Common.{drop, ◌↔◌}
use Rattle.command_words.specs.Names.{ArePartBytes}
use Rattle.command_words.proofs.names.are_part_bytes.Given as goal

abbrev pub invariant-loop-b : goal.invariant-loop-b
invariant-loop-b l = ArePartBytes l.bytes ↔ ArePartBytes (drop l.b-index l.bytes)
