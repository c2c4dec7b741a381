use Rattle.std.proofs.Common.{drop, ◌↔◌}
use Rattle.command_words.specs.Scan.{AreLater}
use Rattle.command_words.proofs.names.are_later.Given as goal

abbrev pub invariant-loop-b : goal.invariant-loop-b
invariant-loop-b l = AreLater l.bytes ↔ AreLater (drop l.b-index l.bytes)
