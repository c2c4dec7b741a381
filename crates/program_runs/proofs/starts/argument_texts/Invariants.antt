use Rattle.std.proofs.Common.{◌≡◌, ◌++◌, map, drop}
use Rattle.std.specs.String.{string_bytes}
use Rattle.core_meaning.specs.Texts.{units_of_bytes}
use Rattle.program_runs.proofs.starts.argument_texts.Given as goal

abbrev pub invariant-loop-arg : goal.invariant-loop-arg
invariant-loop-arg l = l.texts ++ map units_of_bytes (map string_bytes (drop l.arg-index l.args)) ≡ map units_of_bytes (map string_bytes l.args)
