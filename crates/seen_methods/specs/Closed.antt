-- Types without type variables, and the types that see a method.
use Rattle.std.specs.Prelude.{◌≡◌, ℕ, List, map}
use Rattle.class_world.specs.declared.world.World.{World}
use Rattle.class_world.specs.declared.world.MethodInfo.{MethodInfo}
use Rattle.class_world.specs.declared.world.JavaType.{JavaType}
use Rattle.class_world.specs.Types.{substitute}
use Rattle.class_world.specs.Signatures.{IsMethod, IsSeenWith}

-- the type c is the one that declares the method, or below it
abbrev pub IsSeen : World → ℕ → ℕ → Type 0
IsSeen w c m = (info : MethodInfo) × IsMethod w m info × ((args : List JavaType) × IsSeenWith w c info.owner args)

-- the type that declares m is the one that declares k, or below it
abbrev pub IsDeclaredBelow : World → ℕ → ℕ → Type 0
IsDeclaredBelow w m k = (i : MethodInfo) × (j : MethodInfo) × IsMethod w m i × IsMethod w k j × ((args : List JavaType) × IsSeenWith w i.owner j.owner args)

-- a type that arguments leave as it is
abbrev pub IsClosed : JavaType → Type 0
IsClosed t = (args : List JavaType) → substitute args t ≡ t

abbrev pub AreClosed : List JavaType → Type 0
AreClosed ts = (args : List JavaType) → map (substitute args) ts ≡ ts

-- the parameter types of the method hold no type variable
abbrev pub HasClosedParams : World → ℕ → Type 0
HasClosedParams w m = (info : MethodInfo) → IsMethod w m info → AreClosed info.params
