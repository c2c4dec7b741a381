-- Methods that labels take into their groups. A method's taker is the label that took it last; 0 if none did.
use Rattle.std.specs.Prelude.{◌≡◌, ℕ, ◌<◌, ◌⊎◌, ◌↔◌, List, Option, Some, slice_get, length}
use Rattle.std.specs.List.{Contains, AllPairs}

-- the methods whose taker is the label are those listed, each once
pub record AreTaken (takers : List ℕ) (label : ℕ) (methods : List ℕ) : Type 0 where
  pub each : (k : ℕ) → Contains methods k ↔ (slice_get takers k ≡ Some label)
  pub once : AllPairs (λ x y. x ≡ y → ⊥) methods

-- each taker is as it was, or the label
pub record KeepsTakers (old new : List ℕ) (label : ℕ) : Type 0 where
  pub size : length new ≡ length old
  pub each : (m taker : ℕ) → slice_get new m ≡ Some taker → (slice_get old m ≡ Some taker) ⊎ (taker ≡ label)

-- each taker but 0 is a label that has a place
abbrev pub AreTakers : List (Option ℕ) → List ℕ → Type 0
AreTakers places takers = (m n : ℕ) → slice_get takers m ≡ Some n → 0 < n → (p : ℕ) × (slice_get places n ≡ Some (Some p))
