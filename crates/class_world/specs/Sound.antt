-- What the questions on the order of types need of a world.
use Rattle.std.specs.Prelude.{◌≡◌, ℕ, ◌<◌, ◌/◌, ◌%◌, List, [], Some, slice_get, length, ◌↔◌, IfSome}
use Rattle.std.specs.Int.{bit_at}
use Rattle.class_world.specs.declared.world.World.{World}
use Rattle.class_world.specs.declared.world.TypeInfo.{TypeInfo}
use Rattle.class_world.specs.declared.world.Above.{Above}
use Rattle.class_world.specs.declared.world.JavaType.{JavaType}
use Rattle.class_world.specs.declared.world.JavaType.TheVariants as ty
use Rattle.class_world.specs.DirectSupers.{IsDirectSuper}
use Rattle.class_world.specs.Types.{IsTypeOver, with_own}
use Rattle.class_world.specs.Subtypes.{Subtype, Parameterizes}

-- a type of the world, whatever number of variables is in scope
abbrev pub IsOfWorld : World → JavaType → Type 0
IsOfWorld w t = (n : ℕ) × IsTypeOver w n t

abbrev pub IsKnown : World → ℕ → Type 0
IsKnown w c = (info : TypeInfo) × (slice_get w.types c ≡ Some info)

-- the bit g is set, of 64 to a word from the lowest on
abbrev pub IsSet : List ℕ → ℕ → Type 0
IsSet words g = (word : ℕ) × (slice_get words (g / 64) ≡ Some word) × (bit_at word (g % 64) ≡ 1)

-- A declared supertype in a class of n parameters: a class type over its variables, and not raw (8.1.4, 8.1.5).
abbrev pub IsSuper : World → ℕ → JavaType → Type 0
IsSuper w n d = IsTypeOver w n d × ((g : ℕ) × (args : List JavaType) × (info : TypeInfo) × (d ≡ ty.Class g args) × (slice_get w.types g ≡ Some info) × (length args ≡ info.params))

-- A shortcut of a class of n parameters: of the same form, and one of the declared supertypes of the class, or above one.
abbrev pub IsShortcut : World → ℕ → ℕ → JavaType → Type 0
IsShortcut w c n t = IsSuper w n t × ((d : JavaType) × IsDirectSuper w c d × Subtype w d t)

-- The table's row of a class of n parameters: the classes whose types without arguments are above it, those of which a parameterization is above its raw type,
-- where it has one, and a shortcut, where it has one.
pub record IsRow (w : World) (c n : ℕ) (a : Above) : Type 0 where
  pub types : (g : ℕ) → IsSet a.types g ↔ Subtype w (with_own c n) (ty.Class g [])
  pub raw_bases : 0 < n → (g : ℕ) → IsSet a.raw_bases g ↔ ((u : JavaType) × Parameterizes g u × Subtype w (ty.Class c []) u)
  pub shortcut : IfSome a.shortcut (λ t. IsShortcut w c n t)

-- What the types declare is in order: Object has no supertype and no parameter, and each declared supertype is one.
pub record AreSupers (w : World) : Type 0 where
  pub top : (info : TypeInfo) → slice_get w.types 0 ≡ Some info → (info.params ≡ 0) × (info.supers ≡ [])
  pub supers : (c : ℕ) (info : TypeInfo) (d : JavaType) → slice_get w.types c ≡ Some info → IsDirectSuper w c d → IsSuper w info.params d

-- A declared supertype in a class of n parameters, where it may be raw too: a class type over its variables.
abbrev pub IsClassOver : World → ℕ → JavaType → Type 0
IsClassOver w n d = IsTypeOver w n d × ((g : ℕ) × (args : List JavaType) × (d ≡ ty.Class g args))

-- What the types declare, where the order may be broken: Object has no supertype and no parameter, and each declared supertype is a class type over the variables of
-- its class. It may be raw, a class may be above itself, and one may be below two parameterizations of one class.
pub record HaveClassSupers (w : World) : Type 0 where
  pub top : (info : TypeInfo) → slice_get w.types 0 ≡ Some info → (info.params ≡ 0) × (info.supers ≡ [])
  pub supers : (c : ℕ) (info : TypeInfo) (d : JavaType) → slice_get w.types c ≡ Some info → IsDirectSuper w c d → IsClassOver w info.params d

-- no class with its own variables is below two parameterizations of one class (8.1.5)
abbrev pub IsSingle : World → ℕ → ℕ → Type 0
IsSingle w c n = (g : ℕ) (t u : JavaType) → Parameterizes g t → Parameterizes g u → Subtype w (with_own c n) t → Subtype w (with_own c n) u → t ≡ u

-- What the types declare is in order, no class is above itself (each has a rank, above those of its declared supertypes), none is below two parameterizations of one
-- class, and the table has the row of each.
pub record IsSound (w : World) : Type 0 where
  pub declared : AreSupers w
  pub rank : ℕ → ℕ
  pub falls : (c g : ℕ) (args : List JavaType) → IsDirectSuper w c (ty.Class g args) → rank g < rank c
  pub single : (c : ℕ) (info : TypeInfo) → slice_get w.types c ≡ Some info → IsSingle w c info.params
  pub rows : (c : ℕ) (info : TypeInfo) → slice_get w.types c ≡ Some info → (a : Above) × (slice_get w.above c ≡ Some a) × IsRow w c info.params a
