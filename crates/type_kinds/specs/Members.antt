-- Declared types, fields and methods, by number.
use Rattle.std.specs.Prelude.{ℕ, Bool, false, ◌||◌, Option, Some, None, slice_get}
use Rattle.java_tree.specs.declared.tree.Mod.TheVariants as mods
use Rattle.class_world.specs.declared.world.World.{World}
use Rattle.class_world.specs.declared.world.TypeInfo.{TypeInfo}
use Rattle.class_world.specs.declared.world.FieldInfo.{FieldInfo}
use Rattle.class_world.specs.declared.world.MethodInfo.{MethodInfo}
use Rattle.type_kinds.specs.Kinds.{has}

abbrev pub field_at : World → ℕ → Option FieldInfo
field_at w k = slice_get w.fields k

abbrev pub method_at : World → ℕ → Option MethodInfo
method_at w k = slice_get w.methods k

abbrev pub is_interface_of : Option TypeInfo → Bool
is_interface_of None = false
is_interface_of (Some info) = info.interface

abbrev pub is_interface : World → ℕ → Bool
is_interface w c = is_interface_of (slice_get w.types c)

-- each field of an interface is static and final (9.3)
abbrev pub is_static_field : World → FieldInfo → Bool
is_static_field w i = has mods.Static i.mods || is_interface w i.owner

abbrev pub is_final_field : World → Option FieldInfo → Bool
is_final_field w None = false
is_final_field w (Some i) = has mods.Final i.mods || is_interface w i.owner
