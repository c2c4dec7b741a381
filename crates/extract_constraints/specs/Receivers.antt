-- Members of a value of the class: the new interface has them, or the value's type stays.
use Rattle.std.specs.Prelude.{ℕ, Bool, true, false, ◌&&◌, ◌||◌, not, ◌==◌, List, [], Option, Some, None, slice_get}
use Rattle.std.specs.List.{list_any}
use Rattle.java_tree.specs.declared.tree.Mod.TheVariants as mods
use Rattle.class_world.specs.declared.world.TypeInfo.{TypeInfo}
use Rattle.class_world.specs.declared.world.MethodInfo.{MethodInfo}
use Rattle.class_world.specs.declared.world.JavaType.{JavaType}
use Rattle.java_core.specs.Plain as p
use Rattle.type_kinds.specs.Kinds.{has, ty_of}
use Rattle.type_kinds.specs.Members.{method_at}
use Rattle.kept_places.specs.declared.links.Kind.TheVariants as kind
use Rattle.kept_places.specs.declared.links.Link.{Link}
use Rattle.marked_types.specs.Marked.{mentions, own_mark}
use Rattle.member_uses.specs.Targets.{is_static_method}
use Rattle.extract_constraints.specs.Told.{Told, Where, need_maybe, need_unless}
use Rattle.extract_constraints.specs.Flows.{class_of, value_type, world}
use Rattle.extract_constraints.specs.Groups.{is_among}

abbrev pub methods_of : Option TypeInfo → List ℕ
methods_of None = []
methods_of (Some i) = i.methods

abbrev pub is_public_method : Option MethodInfo → Bool
is_public_method None = false
is_public_method (Some i) = not i.constructor && has mods.Public i.mods

-- the method is m, or one that it overrides
abbrev pub is_one : Told → (m j : ℕ) → Bool
is_one k m j = (j == m) || k.ties.overrides m j

-- a public method of Object, which an interface has too (9.2), or one that overrides such a one
abbrev pub is_of_object : Told → Where → (m : ℕ) → Bool
is_of_object k a m = list_any (λ j. is_public_method (method_at (world a) j) && is_one k m j) (methods_of (slice_get (world a).types 0))

abbrev pub answers_info : Told → Where → (m : ℕ) → Option MethodInfo → Bool
answers_info k a m None = false
answers_info k a m (Some i) = not (is_static_method i) && (is_among a.methods m || is_of_object k a m)

-- the new interface has the instance method that a call chooses, or one that it overrides
abbrev pub answers_still : Told → Where → (m : ℕ) → Bool
answers_still k a m = answers_info k a m (method_at (world a) m)

abbrev pub used_at : Option ℕ → Told → Where → (m node : ℕ) → List Link → List Link
used_at None k a m n ls = ls
used_at (Some p) k a m n ls = need_unless (answers_still k a m) p n kind.Member ls

-- the method m of a value of this type is called at a node
abbrev pub method_use : Told → Where → JavaType → (m node : ℕ) → List Link → List Link
method_use k a t m n ls = used_at (own_mark t) k a m n ls

abbrev pub field_if : (mentioned : Bool) → Told → Where → List JavaType → p.Expr → (node : ℕ) → List Link → List Link
field_if true k a locals x n ls = need_maybe (own_mark (value_type k a locals x)) n kind.Field ls
field_if false k a locals x n ls = ls

-- a field of the value x is used at a node: an interface has none
abbrev pub field_use : Told → Where → List JavaType → p.Expr → (node : ℕ) → List Link → List Link
field_use k a locals x n ls = field_if (mentions (class_of a) (ty_of x)) k a locals x n ls

abbrev pub maybe_field_use : Told → Where → List JavaType → p.MaybeExpr → (node : ℕ) → List Link → List Link
maybe_field_use k a locals p.NoExpr n ls = ls
maybe_field_use k a locals (p.AnExpr x) n ls = field_use k a locals x n ls
