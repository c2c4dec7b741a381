-- Signatures, as far as a type's own type tells them.
use Rattle.std.specs.Prelude.{◌≡◌, ℕ, List, Option, Some, None, slice_get, length}
use Rattle.std.specs.List.{Contains}
use Rattle.class_world.specs.declared.world.World.{World}
use Rattle.class_world.specs.declared.world.TypeInfo.{TypeInfo}
use Rattle.class_world.specs.declared.world.JavaType.{JavaType}
use Rattle.class_world.specs.Types.{with_own}
use Rattle.class_world.specs.Signatures.{IsSeenWith, HaveOneName, HaveOneSignatureIn}
use Rattle.class_world.specs.Inheritance.{DeclaresMethod}

-- the type c with its own variables, or none where it is no type
abbrev pub IsOwnType : World → ℕ → Option JavaType → Type 0
IsOwnType w c None = slice_get w.types c ≡ None
IsOwnType w c (Some t) = (info : TypeInfo) × (slice_get w.types c ≡ Some info) × (t ≡ with_own c info.params)

-- the arguments of the type g above c, or none where it is not above
abbrev pub AreSeen : World → ℕ → ℕ → Option (List JavaType) → Type 0
AreSeen w c g None = (args : List JavaType) → IsSeenWith w c g args → ⊥
AreSeen w c g (Some args) = IsSeenWith w c g args

-- methods of the type c with the name of m
abbrev pub AreOwnNamed : World → ℕ → List ℕ → ℕ → Type 0
AreOwnNamed w c methods m = (k : ℕ) → Contains methods k → DeclaresMethod w c k × HaveOneName w k m

-- one of the methods has the signature of m in c
abbrev pub IsReplaced : World → ℕ → List ℕ → ℕ → Type 0
IsReplaced w c methods m = (k : ℕ) × Contains methods k × HaveOneSignatureIn w c k m

-- the type g has so many parameters
abbrev pub HasParams : World → ℕ → ℕ → Type 0
HasParams w g count = (info : TypeInfo) × (slice_get w.types g ≡ Some info) × (count ≡ info.params)

-- as many parameters as there are arguments
abbrev pub HasCount : World → ℕ → List JavaType → Type 0
HasCount w g args = HasParams w g (length args)
