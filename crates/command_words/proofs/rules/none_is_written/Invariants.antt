use Rattle.std.proofs.Common.{◌↔◌, map, drop}
use Rattle.std.specs.String.{string_bytes}
use Rattle.command_words.specs.Scan.{AllFrom, IsWritten}
use Rattle.command_words.proofs.rules.none_is_written.Given as goal

abbrev pub invariant-loop-at : goal.invariant-loop-at
invariant-loop-at l = AllFrom (λ i w. IsWritten l.out l.files w → ⊥) 0 (map string_bytes l.inputs) ↔ AllFrom (λ i w. IsWritten l.out l.files w → ⊥) l.at (map string_bytes (drop l.at l.inputs))
