-- What the world says of its types and fields, as the tables have it.
use Rattle.std.specs.Prelude.{◌≡◌, ℕ, Bool, false, ◌&&◌, List, map, filter, Some, None, Option}
use Rattle.class_world.specs.declared.world.World.{World}
use Rattle.class_world.specs.declared.world.TypeInfo.{TypeInfo}
use Rattle.class_world.specs.declared.world.FieldInfo.{FieldInfo}
use Rattle.type_kinds.specs.Members.{field_at, is_static_field, is_final_field}
use Rattle.core_meaning.specs.declared.values.Held.{Held}
use Rattle.core_meaning.specs.Code.{first_held, is_instance_field, is_constant_type, fields_above, superclass_of}
use Rattle.running_code.specs.declared.types.Types.{Types}

-- what a field holds at first
abbrev pub held_in : World → ℕ → Held
held_in w f = first_held w f (field_at w f)

-- what those of these fields hold that are no static ones
abbrev pub own_held : World → List ℕ → List Held
own_held w fs = map (held_in w) (filter (is_instance_field w) fs)

-- what the fields of a class and the classes above it hold, of which at most n are looked at
abbrev pub held_above : ℕ → World → Option ℕ → List Held
held_above n w k = map (held_in w) (fields_above n w k)

-- a constant field, whatever its value is
abbrev pub is_fixed : World → FieldInfo → Bool
is_fixed w i = is_static_field w i && is_final_field w (Some i) && is_constant_type i.ty

abbrev pub is_fixed_at : World → Option FieldInfo → Bool
is_fixed_at w None = false
is_fixed_at w (Some i) = is_fixed w i

-- the tables of a world
pub record AreTypes (w : World) (t : Types) : Type 0 where
  pub supers : t.supers ≡ map (λ (i : TypeInfo). superclass_of w (Some i)) w.types
  pub own : t.own ≡ map (λ (i : TypeInfo). own_held w i.fields) w.types
  pub statics : t.statics ≡ map (is_static_field w) w.fields
  pub fixed : t.fixed ≡ map (is_fixed w) w.fields
