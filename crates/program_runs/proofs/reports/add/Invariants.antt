use Rattle.std.proofs.Common.{◌≡◌, ◌++◌, drop}
use Rattle.program_runs.proofs.reports.add.Given as goal

abbrev pub invariant-loop-byte : goal.invariant-loop-byte
invariant-loop-byte l = l.to ++ drop l.byte-index l.bytes ≡ l.initial.to ++ l.bytes
