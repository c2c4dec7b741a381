use Rattle.std.proofs.Common.{◌↔◌, map, drop}
use Rattle.std.specs.String.{string_bytes}
use Rattle.command_words.specs.Names.{IsPath}
use Rattle.command_words.specs.Scan.{AllFrom}
use Rattle.command_words.proofs.rules.are_paths.Given as goal

abbrev pub invariant-loop-at : goal.invariant-loop-at
invariant-loop-at l = AllFrom (λ i w. IsPath w) 0 (map string_bytes l.names) ↔ AllFrom (λ i w. IsPath w) l.at (map string_bytes (drop l.at l.names))
