-- The superclasses of each class.
use Rattle.std.specs.Prelude.{◌≡◌, ℕ, ◌<◌, ◌≤◌, ◌↔◌, false, List, Some, slice_get, length}
use Rattle.std.specs.List.{Contains}
use Rattle.class_world.specs.declared.world.World.{World}
use Rattle.class_world.specs.declared.world.TypeInfo.{TypeInfo}
use Rattle.class_world.specs.declared.world.JavaType.{JavaType}
use Rattle.class_world.specs.declared.world.JavaType.TheVariants as ty
use Rattle.class_world.specs.Overriding.{IsClass, IsSuperclass}

-- the type is that of a class with this number
abbrev pub IsClassIn : World → JavaType → ℕ → Type 0
IsClassIn w d s = ((args : List JavaType) × (d ≡ ty.Class s args)) × IsClass w s

-- the class s is a superclass of one that is declared so
abbrev pub IsDeclaredSuperclass : World → TypeInfo → ℕ → Type 0
IsDeclaredSuperclass w info s = (info.interface ≡ false) × ((k : ℕ) × (args : List JavaType) × (slice_get info.supers k ≡ Some (ty.Class s args))) × IsClass w s

-- each number's list has its superclasses
pub record AreSuperclasses (w : World) (supers : List (List ℕ)) : Type 0 where
  pub size : length supers ≡ length w.types
  pub each : (c : ℕ) (list : List ℕ) → slice_get supers c ≡ Some list → (s : ℕ) → Contains list s ↔ IsSuperclass w c s

-- A superclass has a lower rank, and no class a higher one than so many.
pub record AreRanked (w : World) (most : ℕ) : Type 0 where
  pub rank : ℕ → ℕ
  pub falls : (c s : ℕ) → IsSuperclass w c s → rank s < rank c
  pub few : (c : ℕ) → c < length w.types → rank c ≤ most
