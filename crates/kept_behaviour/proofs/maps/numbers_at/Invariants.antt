use Rattle.std.proofs.Common.{◌≡◌, ℕ, ◌<◌, length, Some}
use Rattle.std.specs.Prelude.{slice_get}
use Rattle.kept_behaviour.specs.Kept.{shifted}
use Rattle.kept_behaviour.proofs.maps.numbers_at.Given as goal

abbrev pub invariant-loop-place : goal.invariant-loop-place
invariant-loop-place l = (length l.back ≡ l.place) × ((k : ℕ) → shifted l.from l.by k < l.place → slice_get l.back (shifted l.from l.by k) ≡ Some (Some k))
