use Rattle.std.proofs.Common.{◌≡◌, ℕ, ◌<◌, length, Some}
use Rattle.std.specs.Prelude.{slice_get}
use Rattle.kept_behaviour.specs.Kept.{shifted}
use Rattle.kept_behaviour.proofs.maps.places_of.Given as goal

abbrev pub invariant-loop-number : goal.invariant-loop-number
invariant-loop-number l = (length l.to ≡ l.number) × ((k : ℕ) → k < l.number → slice_get l.to k ≡ Some (shifted l.from l.by k))
