use Rattle.std.proofs.Common.{◌↔◌, map, drop}
use Rattle.std.specs.String.{string_bytes}
use Rattle.command_words.specs.Table.{role_of}
use Rattle.command_words.specs.Rules.{FitsNumber}
use Rattle.command_words.specs.Scan.{AllFrom}
use Rattle.command_words.proofs.rules.has_numbers.Given as goal

abbrev pub invariant-loop-at : goal.invariant-loop-at
invariant-loop-at l = AllFrom (λ i w. FitsNumber (role_of l.command i) w) 0 (map string_bytes l.own) ↔ AllFrom (λ i w. FitsNumber (role_of l.command i) w) l.at (map string_bytes (drop l.at l.own))
