-- When look-ups find the same in two programs.
use Rattle.std.specs.Prelude.{◌≡◌, ℕ, ◌<◌, ◌⊎◌, Bool, true, false, List, Option, Some, None, slice_get, length}
use Rattle.std.specs.List.{Contains}
use Rattle.std.specs.Option.{option_map}
use Rattle.java_tree.specs.declared.tree.Mod.TheVariants as mods
use Rattle.class_world.specs.declared.world.World.{World}
use Rattle.class_world.specs.declared.world.MethodInfo.{MethodInfo}
use Rattle.class_world.specs.Overriding.{FoundIs}
use Rattle.core_meaning.specs.Code.{Code}
use Rattle.running_code.specs.declared.running.Running.{Running}
use Rattle.running_code.specs.Running.{HaveOneSuperclass, IsCode}
use Rattle.program_maps.specs.declared.numbers.Map.{Map}
use Rattle.program_maps.specs.Ways.{LeadsBack, goes_to, ways}
use Rattle.program_maps.specs.Pairs.{Pair}
use Rattle.program_maps.specs.Correspond.{CallsFound}

-- a constructor, static or private
abbrev pub IsFixedBy : MethodInfo → Type 0
IsFixedBy info = (info.constructor ≡ true) ⊎ Contains info.mods mods.Static ⊎ Contains info.mods mods.Private

-- two worlds with a map of their numbers, and whether all runs count
pub record Sides : Type 0 where
  pub old : World
  pub new : World
  pub map : Map
  pub strict : Bool

abbrev pub sides : (old new : Running) → Map → Bool → Sides
sides old new map strict = record { old = old.world.now; new = new.world.now; map = map; strict = strict }

abbrev pub to_type : Sides → ℕ → ℕ
to_type x = goes_to x.map.types

abbrev pub to_method : Sides → ℕ → ℕ
to_method x = goes_to x.map.methods

-- The new look-up finds what the old one does, through the map. Where not all runs count, nothing is said of what the old one does not find.
abbrev pub LedBy : Bool → (ℕ → ℕ) → Option ℕ → Option ℕ → Type 0
LedBy strict f o p = (p ≡ option_map f o) ⊎ ((strict ≡ false) × (o ≡ None))

-- so for the old method m and the new one n on an object of the class k; in each world the method that runs is one alone
abbrev pub FindsOn : Sides → (m n k : ℕ) → Type 0
FindsOn x m n k =
    HaveOneSuperclass x.old → HaveOneSuperclass x.new → (o p : Option ℕ) → FoundIs x.old m k o → FoundIs x.new n (to_type x k) p → LedBy x.strict (to_method x) o p

-- on objects of every class, and for every number of none
abbrev pub FindsAlike : Sides → (m n : ℕ) → Type 0
FindsAlike x m n = (k : ℕ) → FindsOn x m n k

-- the map has a place for each type and method of both worlds, and leads each type back
pub record IsWhole (old new : World) (map : Map) : Type 0 where
  pub types : length map.types.to ≡ length old.types
  pub types_back : length map.types.back ≡ length new.types
  pub methods : length map.methods.to ≡ length old.methods
  pub methods_back : length map.methods.back ≡ length new.methods
  pub one : LeadsBack map.types

-- each method finds as the one that it goes to does
abbrev pub AllFindAlike : Sides → Type 0
AllFindAlike x = (m : ℕ) → m < length x.map.methods.to → FindsAlike x m (to_method x m)

-- and as another one that may be called in its stead
abbrev pub OthersFindAlike : Sides → List (Option ℕ) → Type 0
OthersFindAlike x others = (m n : ℕ) → slice_get others m ≡ Some (Some n) → FindsAlike x m n

-- so for what running programs are told
abbrev pub CallsFoundTold : (old new : Running) → Map → List (Option ℕ) → Bool → Type 0
CallsFoundTold old new map others strict =
    (c d : Code) → IsCode old c → IsCode new d → (p : Pair) → p.ways ≡ ways map → p.others ≡ others → p.strict ≡ strict → CallsFound p c d
