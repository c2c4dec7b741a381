-- What the steps do to the values of a map.
use Rattle.std.specs.Prelude.{◌≡◌, ◌==◌, ℕ, ◌+◌, ◌<◌, Bool, true, false, Option, Some, None, if◌then◌else◌, slice_get}
use Rattle.std.specs.List.{list_any}
use Rattle.java_tree.specs.declared.tree.Mod.{Mod}
use Rattle.java_tree.specs.declared.tree.Mod.TheVariants as mods
use Rattle.class_world.specs.declared.world.World.{World}
use Rattle.class_world.specs.declared.world.FieldInfo.{FieldInfo}
use Rattle.shared_maps.specs.declared.Map.{Map}
use Rattle.shared_maps.specs.Trees.{Memory}
use Rattle.shared_maps.specs.Maps.{IsMap, KeepsMaps, value_in}

-- the value for the fields of two values together
abbrev pub joined : Option ℕ → Option ℕ → Option ℕ
joined None b = b
joined (Some x) None = Some x
joined (Some x) (Some y) = if x == y then Some x else Some 0

-- the value at k after several fields of a name were put in
abbrev pub several_at : ℕ → Option ℕ → ℕ → Option ℕ
several_at k v name = if k == name then Some 0 else v

abbrev pub without : ℕ → Option ℕ → Option FieldInfo → Option ℕ
without k v None = v
without k v (Some info) = if k == info.name.0 then None else v

-- the value at k after the name of a field was taken out
abbrev pub without_at : World → ℕ → Option ℕ → ℕ → Option ℕ
without_at w k v f = without k v (slice_get w.fields f)

abbrev pub is_private_mod : Mod → Bool
is_private_mod mods.Private = true
is_private_mod _ = false

abbrev pub with_one : Bool → ℕ → Option ℕ → ℕ → Option FieldInfo → Option ℕ
with_one private_too k v f None = v
with_one true k v f (Some info) = if k == info.name.0 then joined v (Some (f + 1)) else v
with_one false k v f (Some info) = if list_any is_private_mod info.mods then v else if k == info.name.0 then joined v (Some (f + 1)) else v

-- the value at k after a field was put in
abbrev pub with_at : World → Bool → ℕ → Option ℕ → ℕ → Option ℕ
with_at w private_too k v f = with_one private_too k v f (slice_get w.fields f)

-- A map of the new memory has at each name what the step makes of the value of an old map. The old maps stay.
pub record Changes (old new : Memory) (map : Map) (step : ℕ → Option ℕ → Option ℕ) (r : Map) : Type 0 where
  pub is_map : IsMap new r
  pub kept : KeepsMaps old new
  pub value : (k : ℕ) → k < old.keys → value_in new r k ≡ step k (value_in old map k)
