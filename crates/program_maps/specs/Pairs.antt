-- Two programs, and what stands in the second one for what stands in the first.
use Rattle.std.specs.Prelude.{◌≡◌, ℕ, ◌⊎◌, Bool, false, List, [], Option, Some, None, slice_get}
use Rattle.class_world.specs.declared.world.World.{World}
use Rattle.class_world.specs.declared.world.JavaType.{JavaType}
use Rattle.class_world.specs.declared.world.JavaType.TheVariants as ty
use Rattle.class_world.specs.Types.{erased}
use Rattle.class_world.specs.Subtypes.{Subtype}
use Rattle.type_kinds.specs.Kinds.{primitive}
use Rattle.type_kinds.specs.OfWorld.{AreBoth}
use Rattle.program_maps.specs.Ways.{Ways, moved}

-- The map; for methods of the old program another one of the new program that may be called in their stead; the new program's world; and whether all runs are to be alike,
-- or those alone in which nothing goes wrong.
pub record Pair : Type 0 where
  pub ways : Ways
  pub others : List (Option ℕ)
  pub world : World
  pub strict : Bool

-- ---- calls

-- an instance method that is called
abbrev pub CallAlike : Pair → (m m' : ℕ) → Type 0
CallAlike p m m' = (m' ≡ p.ways.methods m) ⊎ (slice_get p.others m ≡ Some (Some m'))

-- ---- types

-- a type of which only the erasure counts (JLS 4.6)
abbrev pub ErasedAlike : Pair → (t t' : JavaType) → Type 0
ErasedAlike p t t' = erased t' ≡ moved p.ways.types (erased t)

-- the type of an array that is made: it is its own erasure
abbrev pub ArrayAlike : Pair → (t t' : JavaType) → Type 0
ArrayAlike p t t' = (erased t ≡ t) × (t' ≡ moved p.ways.types t)

-- a type of which only the primitive counts to which values are fitted
abbrev pub FitAlike : (t t' : JavaType) → Type 0
FitAlike t t' = primitive t' ≡ primitive t

-- the class c of the old program is, in the new one, below d
abbrev pub IsClassBelow : Pair → (c d : ℕ) → Type 0
IsClassBelow p c d =
    AreBoth p.world (ty.Class (p.ways.types c) []) (ty.Class d []) × Subtype p.world (ty.Class (p.ways.types c) []) (ty.Class d [])

-- The type of a cast that is implied. Where not all runs count it may be one above.
abbrev pub CastAlike : Pair → (t t' : JavaType) → Type 0
CastAlike p t t' =
    ErasedAlike p t t'
    ⊎ ((p.strict ≡ false) × ((c : ℕ) × (d : ℕ) × (erased t ≡ ty.Class c []) × (erased t' ≡ ty.Class d []) × IsClassBelow p c d))

-- with the flag that says whether there is one
abbrev pub ImpliedAlike : Pair → (implied implied' : Bool) → (t t' : JavaType) → Type 0
ImpliedAlike p i i' t t' = (i' ≡ i) × ((i ≡ false) ⊎ CastAlike p t t')
