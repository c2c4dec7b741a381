-- What a class has from its superclass and from its interfaces, in parts.
use Rattle.std.specs.Prelude.{◌≡◌, ℕ, ◌↔◌, List, Some, slice_get, length}
use Rattle.std.specs.List.{Contains}
use Rattle.class_world.specs.declared.world.World.{World}
use Rattle.class_world.specs.declared.world.JavaType.{JavaType}
use Rattle.class_world.specs.declared.world.JavaType.TheVariants as ty
use Rattle.class_world.specs.DirectSupers.{IsDirectSuper}
use Rattle.class_world.specs.Signatures.{HaveOneSignatureIn}
use Rattle.class_world.specs.Inheritance.{DeclaresMethod, IsMemberMethod, Inherits}
use Rattle.class_world.specs.Overriding.{IsClass, IsSuperclass}

-- the class of a declared supertype of c
abbrev pub IsSupertype : World → ℕ → ℕ → Type 0
IsSupertype w c s = (args : List JavaType) × IsDirectSuper w c (ty.Class s args)

-- the listed types are the superclasses of the class c: one or none
abbrev pub AreSuperclasses : World → ℕ → List ℕ → Type 0
AreSuperclasses w c supers = (s : ℕ) → Contains supers s ↔ IsSuperclass w c s

-- a member of c that c does not declare
abbrev pub IsInherited : World → ℕ → ℕ → Type 0
IsInherited w c m = IsMemberMethod w c m × (DeclaresMethod w c m → ⊥)

-- the class c has m from its superclass, and a class declares m
abbrev pub IsLower : World → ℕ → ℕ → Type 0
IsLower w c m = ((s : ℕ) × IsSuperclass w c s × Inherits w c s m) × ((o : ℕ) × DeclaresMethod w o m × IsClass w o)

-- m meets k in the class c, if that has k from an interface
abbrev pub Meets : World → ℕ → ℕ → ℕ → Type 0
Meets w c m k = IsLower w c m × (m ≡ k → ⊥) × HaveOneSignatureIn w c m k

-- no element stands twice
abbrev pub IsOnce : {A : Type 0} → List A → Type 0
IsOnce {A = A} xs = (i j : ℕ) (x : A) → slice_get xs i ≡ Some x → slice_get xs j ≡ Some x → i ≡ j

-- so many elements, of each of which P holds with its place
abbrev pub AreAll : {A : Type 0} → (ℕ → A → Type 0) → List A → ℕ → Type 0
AreAll {A = A} P xs n = (length xs ≡ n) × ((i : ℕ) (x : A) → slice_get xs i ≡ Some x → P i x)
