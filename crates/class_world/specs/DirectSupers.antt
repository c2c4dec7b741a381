-- The supertypes that a class declares (JLS 8.1.4 and 8.1.5).
use Rattle.std.specs.Prelude.{◌≡◌, ℕ, Some, slice_get}
use Rattle.class_world.specs.declared.world.World.{World}
use Rattle.class_world.specs.declared.world.TypeInfo.{TypeInfo}
use Rattle.class_world.specs.declared.world.JavaType.{JavaType}

-- the type stands among the declared supertypes of a class
abbrev pub IsDirectSuper : World → ℕ → JavaType → Type 0
IsDirectSuper w c t = (info : TypeInfo) × (slice_get w.types c ≡ Some info) × (k : ℕ) × (slice_get info.supers k ≡ Some t)
