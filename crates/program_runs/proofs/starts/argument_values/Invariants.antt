use Rattle.std.proofs.Common.{◌≡◌, ◌++◌, ◌+◌, ℕ}
use Rattle.core_meaning.specs.Runs.{arguments}
use Rattle.program_runs.proofs.starts.argument_values.Given as goal

abbrev pub invariant-loop-number : goal.invariant-loop-number
invariant-loop-number l = (rest : ℕ) → rest + l.number ≡ l.count → l.values ++ arguments l.number rest ≡ arguments 0 l.count
