-- Casts between reference types, and the tests that go like them: instanceof, == and != (JLS 5.5, 15.20.2, 15.21.3), more narrowly than there.
use Rattle.std.specs.Prelude.{◌≡◌, ◌⊎◌, ℕ, true, false, List, Some, slice_get}
use Rattle.std.specs.List.{Contains}
use Rattle.java_tree.specs.declared.tree.Mod.TheVariants as mods
use Rattle.class_world.specs.declared.world.World.{World}
use Rattle.class_world.specs.declared.world.TypeInfo.{TypeInfo}
use Rattle.class_world.specs.declared.world.JavaType.{JavaType}
use Rattle.class_world.specs.declared.world.JavaType.TheVariants as ty
use Rattle.class_world.specs.Types.{IsReference, erased}
use Rattle.class_world.specs.Subtypes.{Subtype}

abbrev pub IsInterface : World → ℕ → Type 0
IsInterface w c = (info : TypeInfo) × (slice_get w.types c ≡ Some info) × (info.interface ≡ true)

-- a class that may have a class below it
abbrev pub IsOpenClass : World → ℕ → Type 0
IsOpenClass w c = (info : TypeInfo) × (slice_get w.types c ≡ Some info) × (info.interface ≡ false) × (Contains info.mods mods.Final → ⊥)

-- two interfaces; or an interface, and a class that may have a class below it
abbrev pub AreCastableClasses : World → ℕ → ℕ → Type 0
AreCastableClasses w c d = (IsInterface w c × (IsInterface w d ⊎ IsOpenClass w d)) ⊎ (IsOpenClass w c × IsInterface w d)

-- One is below the other by erasure; one is an interface, and the other too or a class that is not final; or they are arrays of references of which this holds.
pub data Castable (w : World) : JavaType → JavaType → Type 0 where
  down : {s t : JavaType} → Subtype w (erased s) (erased t) → Castable w s t
  up : {s t : JavaType} → Subtype w (erased t) (erased s) → Castable w s t
  interfaces : {c d : ℕ} (xs ys : List JavaType) → IsInterface w c → IsInterface w d → Castable w (ty.Class c xs) (ty.Class d ys)
  to_interface : {c d : ℕ} (xs ys : List JavaType) → IsOpenClass w c → IsInterface w d → Castable w (ty.Class c xs) (ty.Class d ys)
  from_interface : {c d : ℕ} (xs ys : List JavaType) → IsInterface w c → IsOpenClass w d → Castable w (ty.Class c xs) (ty.Class d ys)
  arrays : {s t : JavaType} → IsReference s → IsReference t → Castable w s t → Castable w (ty.Array s) (ty.Array t)
