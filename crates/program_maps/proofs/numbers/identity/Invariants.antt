use Rattle.std.proofs.Common.{Some}
use Rattle.program_maps.proofs.Counting.{Counts}
use Rattle.program_maps.proofs.numbers.identity.Given as goal

abbrev pub invariant-loop-number : goal.invariant-loop-number
invariant-loop-number l = Counts (λ i. i) l.number l.to × Counts Some l.number l.back
