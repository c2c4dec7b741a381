-- When classes declare the same supertypes in two worlds, but for classes that the new one alone has.
use Rattle.std.specs.Prelude.{◌≡◌, ◌⊎◌, ℕ, ◌<◌, List, [], ◌∷◌, Some, None, slice_get}
use Rattle.class_world.specs.declared.world.World.{World}
use Rattle.class_world.specs.declared.world.TypeInfo.{TypeInfo}
use Rattle.class_world.specs.declared.world.JavaType.{JavaType}
use Rattle.class_world.specs.declared.world.JavaType.TheVariants as ty
use Rattle.program_maps.specs.declared.numbers.Numbers.{Numbers}
use Rattle.program_maps.specs.Ways.{goes_to, LeadsBack}

-- a type of the class c
abbrev pub IsOfClass : JavaType → ℕ → Type 0
IsOfClass t c = (args : List JavaType) × (t ≡ ty.Class c args)

-- each of them is Object
abbrev pub AreObject : List JavaType → Type 0
AreObject ts = (k : ℕ) (t : JavaType) → slice_get ts k ≡ Some t → IsOfClass t 0

-- a class of the new world to which none of the old one goes, with no supertype but Object
abbrev pub IsAdded : World → Numbers → ℕ → Type 0
IsAdded v x c = (slice_get x.back c ≡ Some None) × ((info : TypeInfo) × (slice_get v.types c ≡ Some info) × AreObject info.supers)

-- a type of such a class
abbrev pub IsOfAdded : World → Numbers → JavaType → Type 0
IsOfAdded v x t = (c : ℕ) × IsOfClass t c × IsAdded v x c

-- the class of s goes to that of t
abbrev pub IsKeptAs : Numbers → (s t : JavaType) → Type 0
IsKeptAs x s t = (c : ℕ) × IsOfClass s c × IsOfClass t (goes_to x c)

-- the types ts of the new world are the types ss of the old one in their order, those of added classes left out
abbrev pub AreKept : World → Numbers → (ss ts : List JavaType) → Type 0
AreKept v x ss [] = ss ≡ []
AreKept v x ss (t ∷ ts) =
    (IsOfAdded v x t × AreKept v x ss ts)
    ⊎ ((IsOfAdded v x t → ⊥) × ((s : JavaType) × (rest : List JavaType) × (ss ≡ s ∷ rest) × IsKeptAs x s t × AreKept v x rest ts))

-- so it is for the supertypes that the class k declares
abbrev pub KeepsSupers : (old new : World) → Numbers → ℕ → Type 0
KeepsSupers w v x k =
    (before : TypeInfo) × (after : TypeInfo) × (slice_get w.types k ≡ Some before) × (slice_get v.types (goes_to x k) ≡ Some after) × AreKept v x before.supers after.supers

-- and for each of the first classes, no two of which go to one
abbrev pub KeepAllSupers : (old new : World) → Numbers → ℕ → Type 0
KeepAllSupers w v x count = LeadsBack x × ((k : ℕ) → k < count → KeepsSupers w v x k)
