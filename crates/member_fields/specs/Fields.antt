-- What the table says of each type and name.
use Rattle.std.specs.Prelude.{ℕ, zero, suc, Option, Some, None, slice_get}
use Rattle.java_tree.specs.declared.tree.Name.{Name}
use Rattle.class_world.specs.declared.world.World.{World}
use Rattle.class_world.specs.declared.world.JavaType.{JavaType}
use Rattle.class_world.specs.Inheritance.{FieldIs, holder}
use Rattle.shared_maps.specs.declared.Map.{Map}
use Rattle.shared_maps.specs.Trees.{Memory}
use Rattle.shared_maps.specs.Maps.{value_in}
use Rattle.member_fields.specs.declared.tables.FieldTable.{FieldTable}

-- A value is 0 for several fields, and for just one its number and 1.
abbrev pub field_of : Option ℕ → Option ℕ
field_of None = None
field_of (Some zero) = None
field_of (Some (suc f)) = Some f

abbrev pub value_under : Memory → Option Map → ℕ → Option ℕ
value_under maps None n = None
value_under maps (Some map) n = value_in maps map n

abbrev pub value_at : FieldTable → Option ℕ → ℕ → Option ℕ
value_at table None n = None
value_at table (Some c) n = value_under table.maps (slice_get table.members c) n

-- the field of the table for a name in a type
abbrev pub field_in : FieldTable → JavaType → Name → Option ℕ
field_in table t n = field_of (value_at table (holder t) n.0)

-- the table says what each name means in each type
abbrev pub HoldsFields : World → FieldTable → Type 0
HoldsFields w table = (t : JavaType) (n : Name) → FieldIs w t n (field_in table t n)
