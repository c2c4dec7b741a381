use Rattle.std.proofs.Common.{◌≡◌, ℕ, ◌<◌, ◌-◌, ◌⊎◌, Some, length}
use Rattle.std.specs.Prelude.{slice_get}
use Rattle.method_groups.proofs.differences.place_from.Given as goal

abbrev pub invariant-loop-at : goal.invariant-loop-at
invariant-loop-at l = (i k : ℕ) → i < l.at → slice_get l.list i ≡ Some k → (i < l.from) ⊎ (k < l.m)

abbrev pub decreases-loop-at : goal.decreases-loop-at
decreases-loop-at l = length l.list - l.at
