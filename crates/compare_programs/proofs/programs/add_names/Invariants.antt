use Rattle.std.proofs.Common.{◌≡◌, ◌++◌, map, drop}
use Rattle.std.specs.String.{string_bytes}
use Rattle.compare_programs.proofs.programs.add_names.Given as goal

abbrev pub invariant-loop-name : goal.invariant-loop-name
invariant-loop-name l = map string_bytes l.names ++ map string_bytes (drop l.name-index l.more) ≡ map string_bytes l.initial.names ++ map string_bytes l.more
