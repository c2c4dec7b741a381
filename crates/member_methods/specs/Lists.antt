-- Lists by number.
use Rattle.std.specs.Prelude.{◌≡◌, ℕ, ◌+◌, ◌≤◌, ◌↔◌, List, [], Option, Some, None, slice_get, unwrap_or, length, take, drop}
use Rattle.std.specs.List.{Contains}
use Rattle.std.specs.List.Sorted.{IsStrictlyIncreasing}
use Rattle.member_methods.specs.declared.lists.Part.{Part}

abbrev pub list_of : List ℕ → Part → List ℕ
list_of numbers p = take p.len (drop p.from numbers)

-- the parts lie within the numbers
abbrev pub AreWithin : List ℕ → List Part → Type 0
AreWithin numbers parts = (k : ℕ) (p : Part) → slice_get parts k ≡ Some p → p.from + p.len ≤ length numbers

-- the list with a number, or none
abbrev pub list_at : List (List ℕ) → Option ℕ → List ℕ
list_at lists None = []
list_at lists (Some n) = unwrap_or (slice_get lists n) []

-- the number is that of an ascending list
abbrev pub IsList : List (List ℕ) → ℕ → Type 0
IsList lists n = (xs : List ℕ) × (slice_get lists n ≡ Some xs) × IsStrictlyIncreasing xs

-- the old lists keep their numbers
abbrev pub Grows : List (List ℕ) → List (List ℕ) → Type 0
Grows old new = (n : ℕ) (xs : List ℕ) → slice_get old n ≡ Some xs → slice_get new n ≡ Some xs

-- The number is that of an ascending list of what P holds of, and the old lists keep theirs.
pub record IsListOf (old new : List (List ℕ)) (n : ℕ) (P : ℕ → Type 0) : Type 0 where
  pub list : IsList new n
  pub grows : Grows old new
  pub has : (m : ℕ) → Contains (list_at new (Some n)) m ↔ P m
