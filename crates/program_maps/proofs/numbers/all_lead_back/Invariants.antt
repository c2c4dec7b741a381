use Rattle.std.proofs.Common.{◌≡◌, ◌<◌, ℕ, Some}
use Rattle.std.specs.Prelude.{slice_get}
use Rattle.program_maps.proofs.numbers.all_lead_back.Given as goal

abbrev pub invariant-loop-from : goal.invariant-loop-from
invariant-loop-from l = (i k : ℕ) → i < l.from → slice_get l.numbers.to i ≡ Some k → slice_get l.numbers.back k ≡ Some (Some i)
