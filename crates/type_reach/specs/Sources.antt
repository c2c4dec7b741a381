-- A graph with its edges turned round.
use Rattle.std.specs.Prelude.{◌≡◌, ℕ, List, Some, Contains, slice_get, length, ◌↔◌}
use Rattle.type_reach.specs.Reach.{IsEdge}

abbrev pub HasTarget : List (List ℕ) → ℕ → ℕ → Type 0
HasTarget g a b = (targets : List ℕ) × (slice_get g a ≡ Some targets) × Contains targets b

abbrev pub IsReverse : List (List ℕ) → List (List ℕ) → Type 0
IsReverse g sources = (length sources ≡ length g) × ((a b : ℕ) → HasTarget sources b a ↔ IsEdge g a b)
