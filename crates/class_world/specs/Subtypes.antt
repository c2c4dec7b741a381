-- The order of all types (JLS 4.10), and assignment without boxing (5.2).
use Rattle.std.specs.Prelude.{◌≡◌, ℕ, ◌<◌, ◌⊎◌, List, [], Option, Some, None, slice_get, length}
use Rattle.java_tree.specs.declared.tree.Primitive.TheVariants as prim
use Rattle.class_world.specs.declared.world.World.{World}
use Rattle.class_world.specs.declared.world.TypeInfo.{TypeInfo}
use Rattle.class_world.specs.declared.world.JavaType.{JavaType}
use Rattle.class_world.specs.declared.world.JavaType.TheVariants as ty
use Rattle.class_world.specs.Types.{object_type, substitute, erased, IsReference}

-- What a declared supertype d is for a class of n parameters: with all its arguments, or none to have, d with the arguments put (8.1.4, 8.1.5); for the raw type
-- of a generic class, the erasure of d (4.8).
abbrev pub IsSeenAs : ℕ → List JavaType → JavaType → JavaType → Type 0
IsSeenAs n args d t = ((length args ≡ n) × (t ≡ substitute args d)) ⊎ ((args ≡ []) × (0 < n) × (t ≡ erased d))

-- a declared supertype of a class type
abbrev pub IsDeclaredSuper : World → ℕ → List JavaType → JavaType → Type 0
IsDeclaredSuper w c args t = (info : TypeInfo) × (slice_get w.types c ≡ Some info) × (d : JavaType) × (k : ℕ) × (slice_get info.supers k ≡ Some d) × IsSeenAs info.params args d t

-- The least relation that is reflexive and transitive and holds: from each class type to its declared supertypes, from each reference type to Object, from
-- each parameterized type to the raw one (4.10.2), from the null type to each reference type, between arrays of references as between their elements (4.10.3),
-- and from char to int to long (4.10.1, of the types that there are).
pub data Subtype (w : World) : JavaType → JavaType → Type 0 where
  same : {t : JavaType} → Subtype w t t
  through : {s m t : JavaType} → Subtype w s m → Subtype w m t → Subtype w s t
  declared : {c : ℕ} {args : List JavaType} {t : JavaType} → IsDeclaredSuper w c args t → Subtype w (ty.Class c args) t
  object : {t : JavaType} → IsReference t → Subtype w t object_type
  raw : (c : ℕ) (args : List JavaType) → Subtype w (ty.Class c args) (ty.Class c [])
  null : {t : JavaType} → IsReference t → Subtype w ty.Null t
  arrays : {s t : JavaType} → IsReference s → IsReference t → Subtype w s t → Subtype w (ty.Array s) (ty.Array t)
  char_int : Subtype w (ty.Prim prim.Char) (ty.Prim prim.Int)
  int_long : Subtype w (ty.Prim prim.Int) (ty.Prim prim.Long)

-- t is a parameterization of the class g
abbrev pub Parameterizes : ℕ → JavaType → Type 0
Parameterizes g t = (args : List JavaType) × (t ≡ ty.Class g args) × (args ≡ [] → ⊥)

-- The unchecked conversion (5.1.9) of s to t: t parameterizes a class whose raw type is above s, and no parameterization of that class is.
abbrev pub IsUnchecked : World → JavaType → JavaType → Type 0
IsUnchecked w s t = (g : ℕ) × Parameterizes g t × Subtype w s (ty.Class g []) × ((u : JavaType) → Parameterizes g u → Subtype w s u → ⊥)

-- a value of type s may be assigned to a variable of type t
abbrev pub Fits : World → JavaType → JavaType → Type 0
Fits w s t = Subtype w s t ⊎ IsUnchecked w s t

-- two different parameterizations of g are above s
abbrev pub IsBelowTwo : World → JavaType → ℕ → Type 0
IsBelowTwo w s g = (t : JavaType) × (u : JavaType) × Parameterizes g t × Parameterizes g u × Subtype w s t × Subtype w s u × (t ≡ u → ⊥)

-- The supertype of t whose class is g: the parameterization of g where there is one, else the raw type or that of a class without parameters.
abbrev pub IsSuperAs : World → JavaType → ℕ → Option JavaType → Type 0
IsSuperAs w t g None = (args : List JavaType) → Subtype w t (ty.Class g args) → ⊥
IsSuperAs w t g (Some u) = Subtype w t u × ((args : List JavaType) × (u ≡ ty.Class g args)) × ((v : JavaType) → Parameterizes g v → Subtype w t v → v ≡ u)
