-- Numbers put into a list, each once.
use Rattle.std.specs.Prelude.{◌≡◌, ℕ, Bool, true, List, Some, slice_get}
use Rattle.std.specs.List.{Contains}

-- the numbers that are marked are in the list
abbrev pub AreThere : List Bool → List ℕ → Type 0
AreThere there numbers = (k : ℕ) → slice_get there k ≡ Some true → Contains numbers k
