-- The type of an expression, with the marks of the declared type that it is read from (Tip et al. 2011), a clause a form.
use Rattle.std.specs.Prelude.{ℕ, Bool, true, false, List, [], Option, Some, None, slice_get}
use Rattle.java_tree.specs.declared.tree.Node.{Node}
use Rattle.java_tree.specs.declared.tree.Mod.TheVariants as mods
use Rattle.class_world.specs.declared.world.FieldInfo.{FieldInfo}
use Rattle.class_world.specs.declared.world.MethodInfo.{MethodInfo}
use Rattle.class_world.specs.declared.world.JavaType.{JavaType}
use Rattle.java_core.specs.Plain as p
use Rattle.type_kinds.specs.Kinds.{element, has, ty_of}
use Rattle.type_kinds.specs.Members.{field_at, method_at}
use Rattle.type_facts.specs.Facts.{Facts}
use Rattle.type_facts.specs.Members.{as_seen, seen_by}
use Rattle.class_world.specs.declared.world.World.{World}
use Rattle.marked_types.specs.declared.marks.Marks.{Marks}
use Rattle.marked_types.specs.declared.reading.Reader.{Reader}
use Rattle.marked_types.specs.Marked.{head_class, is_number, marked_head, marked_inside}
use Rattle.marked_types.specs.Table.{field_mark, result_mark}

-- a program's world, a class, and the marks of its places in what users declare
pub record Reading : Type 0 where
  pub world : World
  pub class : ℕ
  pub marks : Marks

abbrev pub reading_of : Reader → Reading
reading_of r = record { world = r.q.world.now; class = r.class; marks = r.marks.now }

abbrev pub or_own : Option JavaType → (own : JavaType) → JavaType
or_own None own = own
or_own (Some t) own = t

-- ---- fields and methods: what a user declares is seen as it is, since users' types have no type parameters

abbrev pub seen_field : Facts → (receiver : JavaType) → Option FieldInfo → (own : JavaType) → JavaType
seen_field f r None own = own
seen_field f r (Some i) own = as_seen (seen_by f r i.owner (has mods.Static i.mods)) i.ty

abbrev pub field_with : Option JavaType → Facts → (receiver : JavaType) → Option FieldInfo → (own : JavaType) → JavaType
field_with (Some t) f r i own = t
field_with None f r i own = seen_field f r i own

abbrev pub field_of : Facts → Reading → (receiver : JavaType) → (k : ℕ) → (own : JavaType) → JavaType
field_of f at r k own = field_with (field_mark at.marks k) f r (field_at at.world k) own

abbrev pub seen_given : Facts → (receiver : JavaType) → MethodInfo → Option JavaType → (own : JavaType) → JavaType
seen_given f r i None own = own
seen_given f r i (Some t) own = as_seen (seen_by f r i.owner (has mods.Static i.mods)) t

abbrev pub seen_result : Facts → (receiver : JavaType) → Option MethodInfo → (own : JavaType) → JavaType
seen_result f r None own = own
seen_result f r (Some i) own = seen_given f r i i.result own

abbrev pub result_with : Option JavaType → Facts → (receiver : JavaType) → Option MethodInfo → (own : JavaType) → JavaType
result_with (Some t) f r i own = t
result_with None f r i own = seen_result f r i own

abbrev pub result_of : Facts → Reading → (receiver : JavaType) → (k : ℕ) → (own : JavaType) → JavaType
result_of f at r k own = result_with (result_mark at.marks k) f r (method_at at.world k) own

-- ---- expressions

-- a conditional that is of the class is a place of its own; any other one has the type of its larger arm, the first where both are
abbrev pub conditional : (of_class first : Bool) → (own y z : JavaType) → JavaType
conditional true b t y z = t
conditional false true t y z = y
conditional false false t y z = z

abbrev mutual
  pub read : Facts → Reading → (locals : List JavaType) → p.Expr → JavaType
  read f at ls (p.At n t x) = read_form f at ls n t x

  pub read_form : Facts → Reading → (locals : List JavaType) → Node → JavaType → p.Form → JavaType
  read_form f at ls n t (p.Paren x) = read f at ls x
  read_form f at ls n t (p.Implied x) = read f at ls x
  read_form f at ls n t (p.Local k) = or_own (slice_get ls k) t
  read_form f at ls n t (p.Field x simple k) = field_of f at (read f at ls x) k t
  read_form f at ls n t (p.SuperField k) = or_own (field_mark at.marks k) t
  read_form f at ls n t (p.StaticField b x k) = or_own (field_mark at.marks k) t
  read_form f at ls n t (p.Index x y) = or_own (element (read f at ls x)) t
  read_form f at ls n t (p.Call x simple k xs) = result_of f at (read f at ls x) k t
  read_form f at ls n t (p.SuperCall k xs) = or_own (result_mark at.marks k) t
  read_form f at ls n t (p.StaticCall b x k xs) = or_own (result_mark at.marks k) t
  read_form f at ls n t (p.New w k xs) = marked_inside at.class w
  read_form f at ls n t (p.Cast w close x) = marked_inside at.class w
  read_form f at ls n t (p.Assign x y) = read f at ls x
  read_form f at ls n t (p.Compound op kind x y) = read f at ls x
  read_form f at ls n t (p.Cond x y z) =
      conditional (is_number (head_class t) at.class) (f.sub (ty_of z) (ty_of y)) (marked_head at.class n.id [] t) (read f at ls y) (read f at ls z)
  read_form f at ls n t _ = t
