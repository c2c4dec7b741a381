use Rattle.std.proofs.Common.{◌≡◌, ◌++◌, map, drop}
use Rattle.core_meaning.specs.Runs.{first_progress}
use Rattle.program_runs.proofs.starts.progress_of.Given as goal

abbrev pub invariant-loop-info : goal.invariant-loop-info
invariant-loop-info l = l.progress ++ map first_progress (drop l.info-index l.types) ≡ map first_progress l.types
