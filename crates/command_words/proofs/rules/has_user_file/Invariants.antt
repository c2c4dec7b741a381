use Rattle.std.proofs.Common.{◌↔◌, map, drop}
use Rattle.std.specs.String.{string_bytes}
use Rattle.command_words.specs.Table.{role_of}
use Rattle.command_words.specs.Rules.{FitsFile}
use Rattle.command_words.specs.Scan.{AllFrom}
use Rattle.command_words.proofs.rules.has_user_file.Given as goal

abbrev pub invariant-loop-at : goal.invariant-loop-at
invariant-loop-at l = AllFrom (λ i w. FitsFile (map string_bytes l.words.users.now) (role_of l.command i) w) 0 (map string_bytes l.words.own.now) ↔ AllFrom (λ i w. FitsFile (map string_bytes l.words.users.now) (role_of l.command i) w) l.at (map string_bytes (drop l.at l.words.own.now))
