-- The rules that follow supertypes upwards (JLS 8.1.2, 8.1.4, 8.1.5, 8.4.6 and 9.1.3).
use Rattle.std.specs.Prelude.{◌≡◌, ◌≢◌, ℕ, ◌+◌, ◌<◌, ◌⊎◌, true, false, List, [], Some, Contains, slice_get}
use Rattle.java_tree.specs.Plain as t
use Rattle.java_tree.specs.Plain.{TypeExpr, Member}
use Rattle.class_world.specs.declared.world.TypeInfo.{TypeInfo}
use Rattle.class_world.specs.declared.world.JavaType.{JavaType}
use Rattle.class_world.specs.declared.world.JavaType.TheVariants as ty
use Rattle.rule_order.specs.First.{Breaches, Either}
use Rattle.rule_order.specs.Noted.{At, Nowhere, SomeOf}
use Rattle.type_names.specs.declared.known.JavaNames.{JavaNames}
use Rattle.type_names.specs.Known.{File}
use Rattle.written_types.specs.Types.{type_of}
use Rattle.written_types.specs.Breaks.{node_of, head_of, NamesVariable, NamesType}
use Rattle.type_headers.specs.Declared.{Declaration, declarations, place_of, written_supers}

-- the declaration of the type of this number; built-in types have the numbers below 19
abbrev pub Declares : List File → ℕ → Declaration → Type 0
Declares fs c x = (k : ℕ) × (c ≡ 19 + k) × (slice_get (declarations fs) k ≡ Some x)

-- a supertype of a built-in type
abbrev pub IsBuiltInSuper : List TypeInfo → ℕ → ℕ → Type 0
IsBuiltInSuper types c g = (c < 19) × (info : TypeInfo) × (slice_get types c ≡ Some info) × (args : List JavaType) × Contains info.supers (ty.Class g args)

-- ---- what a type depends on

-- The type of a written supertype, by its head alone: the declared type depends on it (JLS 8.1.4, 9.1.3).
abbrev pub WritesSuper : JavaNames → List File → List TypeInfo → ℕ → ℕ → Type 0
WritesSuper j fs types c g =
    (x : Declaration) × Declares fs c x × (s : TypeExpr) × Contains (written_supers x.decl) s × NamesType (place_of j fs types x) (head_of s) g

-- A direct supertype. That Object is above a class that writes no superclass says nothing here.
abbrev pub IsSuperOf : JavaNames → List File → List TypeInfo → ℕ → ℕ → Type 0
IsSuperOf j fs types c g = IsBuiltInSuper types c g ⊎ WritesSuper j fs types c g

-- g is above c, in one step or more
pub data IsAbove (j : JavaNames) (fs : List File) (types : List TypeInfo) : ℕ → ℕ → Type 0 where
  step : (c g : ℕ) → IsSuperOf j fs types c g → IsAbove j fs types c g
  further : (c m g : ℕ) → IsSuperOf j fs types c m → IsAbove j fs types m g → IsAbove j fs types c g

-- DR3: a type is above itself; at the type.
abbrev pub IsAboveItself : JavaNames → List File → List TypeInfo → Breaches
IsAboveItself j fs types b = (c : ℕ) × (x : Declaration) × Declares fs c x × At 3 x.decl.node (IsAbove j fs types c c) b

-- ---- generic supertypes

-- the type is generic, or it is a library's and such a type is above it through types of libraries
pub data IsGenericAbove (j : JavaNames) (fs : List File) (types : List TypeInfo) : ℕ → Type 0 where
  generic : (c : ℕ) (info : TypeInfo) → slice_get types c ≡ Some info → 0 < info.params → IsGenericAbove j fs types c
  upwards : (c g : ℕ) (info : TypeInfo) → slice_get types c ≡ Some info → info.user ≡ false → IsSuperOf j fs types c g → IsGenericAbove j fs types g → IsGenericAbove j fs types c

-- S11: a user type has a generic supertype, raw or not, or one that has one above it; at the type.
abbrev pub GenericSuperBreaches : JavaNames → List File → List TypeInfo → Breaches
GenericSuperBreaches j fs types b =
    (c : ℕ) × (x : Declaration) × Declares fs c x × At 11 x.decl.node ((x.file.user ≡ true) × ((g : ℕ) × WritesSuper j fs types c g × IsGenericAbove j fs types g)) b

-- ---- below Throwable

-- The superclass of a class, where the type that it writes says one (JLS 8.1.4).
abbrev pub SaysSuperclass : JavaNames → List File → List TypeInfo → ℕ → ℕ → Type 0
SaysSuperclass j fs types c g =
    (x : Declaration) × Declares fs c x × (x.decl.interface ≡ false) × (s : TypeExpr) × Contains x.decl.extends s
    × (args : List JavaType) × (type_of (place_of j fs types x) s ≡ Some (ty.Class g args)) × (info : TypeInfo) × (slice_get types g ≡ Some info) × (info.interface ≡ false)

-- Throwable, which has the number 4, or a class below it
pub data IsThrowable (j : JavaNames) (fs : List File) (types : List TypeInfo) : ℕ → Type 0 where
  throwable : IsThrowable j fs types 4
  below : (c g : ℕ) → IsBuiltInSuper types c g ⊎ SaysSuperclass j fs types c g → IsThrowable j fs types g → IsThrowable j fs types c

-- DR12: a type with type parameters is below Throwable (JLS 8.1.2); at the type.
abbrev pub GenericThrowables : JavaNames → List File → List TypeInfo → Breaches
GenericThrowables j fs types b = (c : ℕ) × (x : Declaration) × Declares fs c x × At 12 x.decl.node ((x.decl.params ≢ []) × IsThrowable j fs types c) b

-- a type of a throws clause that is a type parameter, or neither Throwable nor a class below it (JLS 8.4.6)
abbrev pub IsNoThrowable : JavaNames → List File → List TypeInfo → Declaration → TypeExpr → Type 0
IsNoThrowable j fs types x y =
    NamesVariable (place_of j fs types x) (head_of y) ⊎ ((g : ℕ) × NamesType (place_of j fs types x) (head_of y) g × (IsThrowable j fs types g → ⊥))

-- DR2 at the types of throws clauses
abbrev pub ThrowsBreaches : JavaNames → List File → List TypeInfo → Declaration → Member → Breaches
ThrowsBreaches j fs types x (t.AField f) = Nowhere
ThrowsBreaches j fs types x (t.AMethod m) = SomeOf m.throws (λ y. At 2 (node_of y) (IsNoThrowable j fs types x y))

-- DR2 at throws clauses, DR3, and DR12 on types
abbrev pub SuperBreaches : JavaNames → List File → List TypeInfo → Breaches
SuperBreaches j fs types =
    Either (SomeOf (declarations fs) (λ x. SomeOf x.decl.members (ThrowsBreaches j fs types x))) (Either (IsAboveItself j fs types) (GenericThrowables j fs types))
