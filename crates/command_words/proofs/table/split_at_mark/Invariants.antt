use Rattle.std.proofs.Common.{◌≡◌, false, map, take}
use Rattle.std.specs.String.{string_bytes}
use Rattle.command_words.specs.Names.{is_among}
use Rattle.command_words.proofs.table.split_at_mark.Given as goal

abbrev pub invariant-loop-at : goal.invariant-loop-at
invariant-loop-at l = is_among l.mark (map string_bytes (take l.at l.words)) ≡ false
