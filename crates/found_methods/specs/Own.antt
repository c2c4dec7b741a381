-- The methods of one family that a class declares.
use Rattle.std.specs.Prelude.{◌≡◌, ℕ, ◌<◌, ◌↔◌, List, Option, Some, None, slice_get, length}
use Rattle.std.specs.List.{Contains}
use Rattle.std.specs.List.Sorted.{IsStrictlyIncreasing}
use Rattle.class_world.specs.declared.world.World.{World}
use Rattle.class_world.specs.Inheritance.{DeclaresMethod}
use Rattle.class_world.specs.Overriding.{IsClass}
use Rattle.overrides.specs.Tables.{value_at}
use Rattle.found_methods.specs.declared.own.Own.{Own}

-- the class c declares the method k, which has the label l
abbrev pub IsOwn : World → List ℕ → (l c : ℕ) → ℕ → Type 0
IsOwn w labels l c k = IsClass w c × DeclaresMethod w c k × (slice_get labels k ≡ Some l)

-- the lowest of these
abbrev pub IsLowest : World → List ℕ → (l c : ℕ) → ℕ → Type 0
IsLowest w labels l c k = IsOwn w labels l c k × ((j : ℕ) → j < k → IsOwn w labels l c j → ⊥)

abbrev pub LowestIs : World → List ℕ → (l c : ℕ) → Option ℕ → Type 0
LowestIs w labels l c None = (k : ℕ) → IsOwn w labels l c k → ⊥
LowestIs w labels l c (Some k) = IsLowest w labels l c k

-- so far: of the methods below a number
abbrev pub LowestBelow : World → List ℕ → (end l c : ℕ) → Option ℕ → Type 0
LowestBelow w labels end l c None = (k : ℕ) → k < end → IsOwn w labels l c k → ⊥
LowestBelow w labels end l c (Some k) = (k < end) × IsLowest w labels l c k

-- those of them below a number, ascending
pub record IsGroup (w : World) (labels : List ℕ) (end l c : ℕ) (list : List ℕ) : Type 0 where
  pub each : (j : ℕ) → Contains list j ↔ ((j < end) × IsOwn w labels l c j)
  pub ascending : IsStrictlyIncreasing list

-- each group stands at its lowest number
pub record HoldsGroups (w : World) (labels : List ℕ) (end : ℕ) (groups : List (List ℕ)) : Type 0 where
  pub size : length groups ≡ length w.methods
  pub each : (l c k : ℕ) (list : List ℕ) → IsLowest w labels l c k → slice_get groups k ≡ Some list → IsGroup w labels end l c list

-- the methods below a number are in the table
pub record HoldsOwn (w : World) (labels : List ℕ) (end : ℕ) (own : Own) : Type 0 where
  pub rows : length own.table.rows ≡ length w.types
  pub keys : own.table.maps.keys ≡ length w.methods
  pub lowest : (l c : ℕ) → LowestBelow w labels end l c (value_at own.table c l)
  pub groups : HoldsGroups w labels end own.groups.items
