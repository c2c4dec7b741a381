-- What the maps say of the member fields of the classes.
use Rattle.std.specs.Prelude.{◌≡◌, ℕ, zero, suc, ◌<◌, List, Option, Some, None, Contains, slice_get}
use Rattle.java_tree.specs.declared.tree.Mod.TheVariants as mods
use Rattle.class_world.specs.declared.world.World.{World}
use Rattle.class_world.specs.declared.world.FieldInfo.{FieldInfo}
use Rattle.class_world.specs.Inheritance.{IsDirectlyAbove, IsMemberField}
use Rattle.shared_maps.specs.declared.Map.{Map}
use Rattle.shared_maps.specs.Trees.{Memory}
use Rattle.shared_maps.specs.Maps.{IsMap, value_in}

-- what a value says of a set of fields
abbrev pub Summarizes : (ℕ → Type 0) → Option ℕ → Type 0
Summarizes P None = (f : ℕ) → P f → ⊥
Summarizes P (Some zero) = (f : ℕ) × (g : ℕ) × P f × P g × (f ≡ g → ⊥)
Summarizes P (Some (suc f)) = P f × ((g : ℕ) → P g → g ≡ f)

-- the map says at each name which fields belong to it
pub record Sums (maps : Memory) (P : ℕ → ℕ → Type 0) (map : Map) : Type 0 where
  pub is_map : IsMap maps map
  pub sums : (n : ℕ) → n < maps.keys → Summarizes (P n) (value_in maps map n)

abbrev pub HasMap : Memory → List Map → (ℕ → ℕ → Type 0) → ℕ → Type 0
HasMap maps listed P c = (map : Map) × (slice_get listed c ≡ Some map) × Sums maps P map

abbrev pub IsNamed : World → ℕ → ℕ → Type 0
IsNamed w n f = (info : FieldInfo) × (slice_get w.fields f ≡ Some info) × (info.name.0 ≡ n)

abbrev pub IsPrivate : World → ℕ → Type 0
IsPrivate w f = (info : FieldInfo) × (slice_get w.fields f ≡ Some info) × Contains info.mods mods.Private

-- a member field of the class with this name
abbrev pub HasMember : World → ℕ → ℕ → ℕ → Type 0
HasMember w c n f = IsMemberField w c f × IsNamed w n f

-- one that the types below can inherit
abbrev pub HandsDown : World → ℕ → ℕ → ℕ → Type 0
HandsDown w c n f = HasMember w c n f × (IsPrivate w f → ⊥)

-- a class directly above another, which it is not itself (Object as an interface would be above itself)
abbrev pub IsAbove : World → ℕ → ℕ → Type 0
IsAbove w c s = IsDirectlyAbove w c s × (s ≡ c → ⊥)

abbrev pub IsHanded : World → ℕ → ℕ → ℕ → Type 0
IsHanded w c n f = (s : ℕ) × IsAbove w c s × HandsDown w s n f

-- one that some of these classes hands down
abbrev pub IsHandedBy : World → List ℕ → ℕ → ℕ → Type 0
IsHandedBy w classes n f = (s : ℕ) × Contains classes s × HandsDown w s n f
