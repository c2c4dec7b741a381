-- The ways up from a class type: to a parameterization of one class, and to two that differ, in a world whose order may be broken.
use Rattle.std.specs.Prelude.{◌≡◌, ℕ, ◌<◌, Bool, true, false, IsTrue, List, [], Some, slice_get, length, ◌⊎◌, ◌↔◌}
use Rattle.class_world.specs.declared.world.World.{World}
use Rattle.class_world.specs.declared.world.TypeInfo.{TypeInfo}
use Rattle.class_world.specs.declared.world.JavaType.{JavaType}
use Rattle.class_world.specs.declared.world.JavaType.TheVariants as ty
use Rattle.class_world.specs.Types.{with_own}
use Rattle.class_world.specs.Subtypes.{Subtype, IsSeenAs, IsDeclaredSuper, Parameterizes}
use Rattle.class_world.specs.Sound.{IsClassOver, IsOfWorld, IsSet}
use Rattle.class_world.specs.Merged.{HasPlaces, IsCovered, IsListed, declared_supers}

-- the class has parameters
abbrev pub IsGeneric : World → ℕ → Type 0
IsGeneric w c = (info : TypeInfo) × (slice_get w.types c ≡ Some info) × (0 < info.params)

-- the bits of the generic classes
abbrev pub MarkGeneric : World → List ℕ → Type 0
MarkGeneric w words = (g : ℕ) → IsSet words g ↔ IsGeneric w g

-- a parameterization of the class g is above s
abbrev pub HasBase : World → JavaType → ℕ → Type 0
HasBase w s g = (u : JavaType) × Parameterizes g u × Subtype w s u

-- where a flag is not set, no parameterized type is above the class
abbrev pub FlagBases : World → List Bool → Type 0
FlagBases w flags = (length flags ≡ length w.types) × ((c : ℕ) (info : TypeInfo) (g : ℕ) → slice_get flags c ≡ Some false → slice_get w.types c ≡ Some info → HasBase w (with_own c info.params) g → ⊥)

-- the flag of the type's class is set
abbrev pub IsFlagged : List Bool → JavaType → Type 0
IsFlagged flags d = (g : ℕ) × (xs : List JavaType) × (d ≡ ty.Class g xs) × (slice_get flags g ≡ Some true)

-- at most one of the class's declared supertypes has its flag set
abbrev pub HasOneWay : World → List Bool → ℕ → Type 0
HasOneWay w flags c = (j k : ℕ) (d e : JavaType) → slice_get (declared_supers w c) j ≡ Some d → slice_get (declared_supers w c) k ≡ Some e → IsFlagged flags d → IsFlagged flags e → j ≡ k

-- the class with these arguments is a raw type
abbrev pub IsRaw : World → ℕ → List JavaType → Type 0
IsRaw w c args = (args ≡ []) × IsGeneric w c

-- the class with these arguments is a type of the world, and raw or not, as is said
abbrev pub IsSaid : World → ℕ → Bool → List JavaType → Type 0
IsSaid w c raw args = IsOfWorld w (ty.Class c args) × (IsTrue raw ↔ IsRaw w c args)

-- what the supertype d that t's class declares is for t
abbrev pub IsSuperBy : World → JavaType → JavaType → JavaType → Type 0
IsSuperBy w t d u = (c : ℕ) × (xs : List JavaType) × (t ≡ ty.Class c xs) × (info : TypeInfo) × (slice_get w.types c ≡ Some info) × IsSeenAs info.params xs d u

-- what the supertype d is for such types is below a parameterization of g
abbrev pub LeadsTo : World → ℕ → Bool → JavaType → ℕ → Type 0
LeadsTo w c raw d g = (args : List JavaType) (u : JavaType) → IsSaid w c raw args → IsSuperBy w (ty.Class c args) d u → HasBase w u g

-- A type over the variables of the class c, from which a way up goes on: what it is for such types is above them, and of another class.
abbrev pub IsWayUp : World → ℕ → Bool → JavaType → Type 0
IsWayUp w c raw d =
    ((info : TypeInfo) → slice_get w.types c ≡ Some info → IsClassOver w info.params d)
    × ((args : List JavaType) (u : JavaType) → IsSaid w c raw args → IsSuperBy w (ty.Class c args) d u → Subtype w (ty.Class c args) u × ((xs : List JavaType) → u ≡ ty.Class c xs → ⊥))

-- a class type of the world
abbrev pub IsClassType : World → JavaType → Type 0
IsClassType w t = IsOfWorld w t × ((g : ℕ) × (xs : List JavaType) × (t ≡ ty.Class g xs))

-- u is a declared supertype of the class type t
abbrev pub IsDeclaredAbove : World → JavaType → JavaType → Type 0
IsDeclaredAbove w t u = (c : ℕ) × (xs : List JavaType) × (t ≡ ty.Class c xs) × IsDeclaredSuper w c xs u

-- the list with more at its end, all declared supertypes of t, so that it covers each of them
pub record Climbs (w : World) (t : JavaType) (old new : List JavaType) : Type 0 where
  pub kept : (k : ℕ) (u : JavaType) → slice_get old k ≡ Some u → slice_get new k ≡ Some u
  pub only : (u : JavaType) → IsListed new u → IsListed old u ⊎ IsDeclaredAbove w t u
  pub covered : (u : JavaType) → IsDeclaredAbove w t u → IsCovered new u

-- so far: what the first i declared supertypes are for t is covered
pub record IsClimbing (w : World) (t : JavaType) (old new supers : List JavaType) (i : ℕ) : Type 0 where
  pub kept : (k : ℕ) (u : JavaType) → slice_get old k ≡ Some u → slice_get new k ≡ Some u
  pub only : (u : JavaType) → IsListed new u → IsListed old u ⊎ IsDeclaredAbove w t u
  pub covered : (k : ℕ) (d u : JavaType) → k < i → slice_get supers k ≡ Some d → IsSuperBy w t d u → IsCovered new u

-- two parameterizations of one class are among the listed types and the declared supertypes of t
abbrev pub Collide : World → JavaType → List JavaType → Type 0
Collide w t old = (g : ℕ) × (u : JavaType) × (v : JavaType) × Parameterizes g u × Parameterizes g v × (IsListed old u ⊎ IsDeclaredAbove w t u) × (IsListed old v ⊎ IsDeclaredAbove w t v) × (u ≡ v → ⊥)

-- The search above a class type s over n variables: s is found, all that is found is above it, and the declared supertypes of the first ones found are covered.
pub record IsClimb (w : World) (n : ℕ) (s : JavaType) (found : List JavaType) (places : List ℕ) (done : ℕ) : Type 0 where
  pub size : length places ≡ length w.types
  pub placed : HasPlaces found places
  pub begun : IsListed found s
  pub above : (t : JavaType) → IsListed found t → Subtype w s t × IsClassOver w n t
  pub covered : (k : ℕ) (t u : JavaType) → k < done → slice_get found k ≡ Some t → IsDeclaredAbove w t u → IsCovered found u
