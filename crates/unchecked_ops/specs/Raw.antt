-- Calls, creations and assignments through raw types (JLS 4.8), and the types of parameters.
use Rattle.std.specs.Prelude.{ℕ, Bool, true, false, ◌&&◌, ◌||◌, not, List, [], ◌∷◌, map, Option, Some, None, slice_get}
use Rattle.java_tree.specs.declared.tree.Mod.TheVariants as mods
use Rattle.class_world.specs.declared.world.World.{World}
use Rattle.class_world.specs.declared.world.FieldInfo.{FieldInfo}
use Rattle.class_world.specs.declared.world.MethodInfo.{MethodInfo}
use Rattle.class_world.specs.declared.world.JavaType.{JavaType}
use Rattle.class_world.specs.Types.{erased}
use Rattle.java_core.specs.Plain as p
use Rattle.type_kinds.specs.Kinds.{ty_of, has}
use Rattle.type_facts.specs.Facts.{Facts}
use Rattle.type_kinds.specs.Members.{field_at, is_static_field, method_at}
use Rattle.type_facts.specs.Members.{as_seen, seen_by}
use Rattle.type_facts.specs.declared.seen.Seen.{Seen}
use Rattle.type_facts.specs.declared.seen.Seen.TheVariants as seen

-- how a type sees what a method or constructor declares, and a field
abbrev pub seen_method : Facts → JavaType → MethodInfo → Seen
seen_method f t m = seen_by f t m.owner (has mods.Static m.mods)

abbrev pub seen_field : Facts → JavaType → FieldInfo → Seen
seen_field f t i = seen_by f t i.owner (is_static_field f.world i)

-- the types that a method's or constructor's parameters have for a use on this type
abbrev pub params_on : Facts → JavaType → Option MethodInfo → List JavaType
params_on f t None = []
params_on f t (Some m) = map (as_seen (seen_method f t m)) m.params

-- a static method's are as it declares them, whatever it is called on
abbrev pub declared_params : Option MethodInfo → List JavaType
declared_params None = []
declared_params (Some m) = m.params

-- ---- raw types

abbrev pub erases : Seen → Bool
erases seen.Erased = true
erases (seen.Put args) = false

-- erasure changes the type: it and its erasure are not both below each other
abbrev pub is_changed : Facts → JavaType → Bool
is_changed f t = not (f.sub (erased t) t && f.sub t (erased t))

abbrev pub some_changed : Facts → List JavaType → Bool
some_changed f [] = false
some_changed f (t ∷ ts) = is_changed f t || some_changed f ts

abbrev pub is_raw_call : Facts → JavaType → Option MethodInfo → Bool
is_raw_call f t None = false
is_raw_call f t (Some m) = erases (seen_method f t m) && some_changed f m.params

abbrev pub is_raw_field : Facts → JavaType → Option FieldInfo → Bool
is_raw_field f t None = false
is_raw_field f t (Some i) = erases (seen_field f t i) && is_changed f i.ty

-- a field of a raw type is assigned, through brackets too
abbrev mutual
  pub sets_raw : Facts → p.Expr → Bool
  sets_raw f (p.At n t x) = sets_raw_form f x

  pub sets_raw_form : Facts → p.Form → Bool
  sets_raw_form f (p.Field x simple k) = is_raw_field f (ty_of x) (field_at f.world k)
  sets_raw_form f (p.Paren x) = sets_raw f x
  sets_raw_form f (p.Implied x) = sets_raw f x
  sets_raw_form f _ = false
