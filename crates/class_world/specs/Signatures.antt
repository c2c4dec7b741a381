-- Signatures of methods (JLS 8.4.2) as a declared type sees them: with the arguments that it gives the types above it.
use Rattle.std.specs.Prelude.{◌≡◌, ℕ, false, List, Some, slice_get, length, map}
use Rattle.class_world.specs.declared.world.World.{World}
use Rattle.class_world.specs.declared.world.TypeInfo.{TypeInfo}
use Rattle.class_world.specs.declared.world.MethodInfo.{MethodInfo}
use Rattle.class_world.specs.declared.world.JavaType.{JavaType}
use Rattle.class_world.specs.declared.world.JavaType.TheVariants as ty
use Rattle.class_world.specs.Types.{substitute, with_own}
use Rattle.class_world.specs.Subtypes.{Subtype}

-- the arguments of the type g where it is above the type c with its own variables, or is it
abbrev pub IsSeenWith : World → ℕ → ℕ → List JavaType → Type 0
IsSeenWith w c g args =
    (own : TypeInfo) × (slice_get w.types c ≡ Some own) × (info : TypeInfo) × (slice_get w.types g ≡ Some info) × (length args ≡ info.params)
    × Subtype w (with_own c own.params) (ty.Class g args)

abbrev pub IsMethod : World → ℕ → MethodInfo → Type 0
IsMethod w m info = (slice_get w.methods m ≡ Some info) × (info.constructor ≡ false)

-- the parameter types of a method as the type c sees them
abbrev pub HasParams : World → ℕ → ℕ → List JavaType → Type 0
HasParams w c m ps = (info : MethodInfo) × IsMethod w m info × (args : List JavaType) × IsSeenWith w c info.owner args × (ps ≡ map (substitute args) info.params)

abbrev pub HaveOneName : World → ℕ → ℕ → Type 0
HaveOneName w m k = (i : MethodInfo) × (j : MethodInfo) × IsMethod w m i × IsMethod w k j × (i.name ≡ j.name)

-- two methods have one signature in the type c
abbrev pub HaveOneSignatureIn : World → ℕ → ℕ → ℕ → Type 0
HaveOneSignatureIn w c m k = HaveOneName w m k × ((ps : List JavaType) × HasParams w c m ps × HasParams w c k ps)

-- and in each type below those that declare them
abbrev pub AgreeBelow : World → ℕ → ℕ → Type 0
AgreeBelow w m k =
    (c : ℕ) (i j : MethodInfo) (xs ys : List JavaType) → IsMethod w m i → IsMethod w k j → IsSeenWith w c i.owner xs → IsSeenWith w c j.owner ys → HaveOneSignatureIn w c m k
