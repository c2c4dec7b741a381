-- That there is such a function, so that what is said of it says something.
use Rattle.std.specs.Prelude.{◌⊎◌, Bool}
use Rattle.class_world.specs.declared.world.World.{World}
use Rattle.class_world.specs.declared.world.JavaType.{JavaType}
use Rattle.type_kinds.specs.OfWorld.{AreBoth}
use Rattle.unchecked_ops.specs.Casting.{AreCasts, IsUncheckedCast}

-- the excluded middle, of which casts are unchecked
abbrev pub AreDecided : World → Type 0
AreDecided w = (s t : JavaType) → (AreBoth w s t × IsUncheckedCast w s t) ⊎ ((AreBoth w s t × IsUncheckedCast w s t) → ⊥)

abbrev pub HaveCasts : Type 0
HaveCasts = (w : World) → AreDecided w → (u : JavaType → JavaType → Bool) × AreCasts w u
