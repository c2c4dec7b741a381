-- Expressions whose types change, and where their values go, a clause a form.
use Rattle.std.specs.Prelude.{ℕ, Bool, true, false, ◌&&◌, ◌||◌, not, Option, Some, None}
use Rattle.java_tree.specs.declared.tree.Node.{Node}
use Rattle.class_world.specs.declared.world.FieldInfo.{FieldInfo}
use Rattle.class_world.specs.declared.world.MethodInfo.{MethodInfo}
use Rattle.class_world.specs.declared.world.Walk.{Walk}
use Rattle.class_world.specs.declared.world.JavaType.{JavaType}
use Rattle.java_core.specs.declared.expr.Kind.{Kind}
use Rattle.java_core.specs.declared.expr.Kind.TheVariants as operands
use Rattle.java_core.specs.Plain as p
use Rattle.type_kinds.specs.Kinds.{element, is_string, node_of, ty_of}
use Rattle.type_kinds.specs.Members.{method_at}
use Rattle.type_facts.specs.Facts.{Facts}
use Rattle.type_places.specs.declared.changes.Changes.{Changes}
use Rattle.type_places.specs.Changes.{is_field, is_result, is_slot, raised}
use Rattle.type_constraints.specs.declared.unmet.Constraint.TheVariants as kind
use Rattle.type_constraints.specs.declared.unmet.Unmet.{Unmet}
use Rattle.type_constraints.specs.Asked.{Asked}
use Rattle.type_constraints.specs.Unmets.{unless}

-- ---- whether the type of an expression is read from a declared type that changes

-- what has this slot at a node
abbrev pub is_local : Changes → (method : Option ℕ) → (slot : ℕ) → Node → Bool
is_local c None k n = false
is_local c (Some m) k n = is_slot c m k n.span.from

-- of the arms of a conditional, of types s and t: a changed arm leads on to the conditional, but where the other one is fixed and the new type fits it
abbrev pub leads_on : Asked → (first second : Bool) → (s t : JavaType) → Bool
leads_on a true true s t = true
leads_on a true false s t = not (a.facts.fits (raised a.change s) t)
leads_on a false true s t = not (a.facts.fits (raised a.change t) s)
leads_on a false false s t = false

abbrev mutual
  pub changed : Asked → p.Expr → Bool
  changed a (p.At n t x) = changed_form a n x

  pub changed_form : Asked → Node → p.Form → Bool
  changed_form a n (p.Paren x) = changed a x
  changed_form a n (p.Local k) = is_local a.change a.method k n
  changed_form a n (p.Field x simple k) = is_field a.change k
  changed_form a n (p.SuperField k) = is_field a.change k
  changed_form a n (p.StaticField b x k) = is_field a.change k
  changed_form a n (p.Call x simple k xs) = is_result a.change k
  changed_form a n (p.SuperCall k xs) = is_result a.change k
  changed_form a n (p.StaticCall b x k xs) = is_result a.change k
  changed_form a n (p.Index x y) = changed a x
  changed_form a n (p.Assign x y) = changed a x
  changed_form a n (p.Compound op kind x y) = changed a x
  changed_form a n (p.Cond x y z) = leads_on a (changed a y) (changed a z) (ty_of y) (ty_of z)
  changed_form a n _ = false

-- ---- flows: a value goes to a place of a declared type, which changes or not

abbrev pub fits_after : Asked → p.Expr → JavaType → Bool
fits_after a x t = a.facts.fits (raised a.change (ty_of x)) t

abbrev pub flow : Asked → (to_changes : Bool) → JavaType → p.Expr → Option Unmet → Option Unmet
flow a true t x first = first
flow a false t x first = unless (not (changed a x) || fits_after a x t) (node_of x) kind.Assign first

abbrev pub flow_to : Asked → (to_changes : Bool) → Option JavaType → p.Expr → Option Unmet → Option Unmet
flow_to a b None x first = first
flow_to a b (Some t) x first = flow a b t x first

abbrev pub is_filled_form : p.Form → Bool
is_filled_form (p.Filled xs) = true
is_filled_form _ = false

-- items in braces alone
abbrev pub is_filled : p.Expr → Bool
is_filled (p.At n t x) = is_filled_form x

-- the value of a variable: of items in braces an array of the declared type is made
abbrev pub init : Asked → (to_changes : Bool) → JavaType → p.Expr → Option Unmet → Option Unmet
init a true t x first = unless (not (is_filled x)) (node_of x) kind.Assign first
init a false t x first = flow a false t x first

abbrev pub field_init : Asked → (field : ℕ) → Option FieldInfo → p.Expr → Option Unmet → Option Unmet
field_init a k None x first = first
field_init a k (Some i) x first = init a (is_field a.change k) i.ty x first

-- the items of an array of this type
abbrev pub items : Asked → JavaType → p.Exprs → Option Unmet → Option Unmet
items a t p.End first = first
items a t (p.Also x xs) first = items a t xs (flow_to a false (element t) x first)

abbrev pub result_of : Option MethodInfo → Option JavaType
result_of None = None
result_of (Some i) = i.result

-- a value that a method gives
abbrev pub given : Asked → (method : Option ℕ) → p.Expr → Option Unmet → Option Unmet
given a None x first = first
given a (Some m) x first = flow_to a (is_result a.change m) (result_of (method_at a.world m)) x first

-- ---- concatenations (JLS 15.18.1)

abbrev pub is_changed_string : Asked → p.Expr → Bool
is_changed_string a x = is_string (ty_of x) && changed a x

abbrev pub is_kept_string : Asked → p.Expr → Bool
is_kept_string a x = is_string (ty_of x) && not (changed a x)

-- an operand beside another one: one of the two is a String still
abbrev pub operand : Asked → (x other : p.Expr) → Option Unmet → Option Unmet
operand a x y first = unless (not (is_changed_string a x) || is_kept_string a y) (node_of x) kind.Assign first

abbrev pub joined : Asked → Kind → (x y : p.Expr) → Option Unmet → Option Unmet
joined a operands.Text x y first = operand a y x (operand a x y first)
joined a _ x y first = first

-- what `+=` appends to
abbrev pub appended : Asked → Kind → p.Expr → Option Unmet → Option Unmet
appended a operands.Text x first = unless (not (is_changed_string a x)) (node_of x) kind.Assign first
appended a _ x first = first

-- ---- conditionals (JLS 15.25): the new type of a changed arm fits the fixed one, or the other way round

abbrev pub meets : Facts → (s t : JavaType) → Bool
meets f s t = f.fits s t || f.fits t s

abbrev pub arms_meet : Asked → (first second : Bool) → (s t : JavaType) → Bool
arms_meet a true true s t = true
arms_meet a true false s t = meets a.facts (raised a.change s) t
arms_meet a false true s t = meets a.facts (raised a.change t) s
arms_meet a false false s t = true

abbrev pub arms : Asked → Node → (y z : p.Expr) → Option Unmet → Option Unmet
arms a n y z first = unless (arms_meet a (changed a y) (changed a z) (ty_of y) (ty_of z)) n.id kind.Arm first

-- ---- loops over a value (JLS 14.14.2)

abbrev pub is_alike : Facts → (s t : JavaType) → Bool
is_alike f s t = f.sub s t && f.sub t s

abbrev pub are_alike : Facts → (s t : Option JavaType) → Bool
are_alike f None None = true
are_alike f None (Some t) = false
are_alike f (Some s) None = false
are_alike f (Some s) (Some t) = is_alike f s t

-- the new type is the same Iterable
abbrev pub walks_alike : Asked → Option Walk → JavaType → Bool
walks_alike a None t = false
walks_alike a (Some w) t = are_alike a.facts (a.facts.super_as (raised a.change t) w.iterable) (a.facts.super_as t w.iterable)

-- an array's items of this type go to the variable; a value that is no array is walked
abbrev pub walked : Asked → p.Var → p.Expr → (item : Option JavaType) → Option Unmet → Option Unmet
walked a v x (Some t) first = unless (is_local a.change a.method v.slot v.node || a.facts.fits (raised a.change t) v.ty) (node_of x) kind.Assign first
walked a v x None first = unless (walks_alike a a.world.walk (ty_of x)) (node_of x) kind.Member first

abbrev pub walked_over : Asked → p.Var → p.Expr → (is_changed : Bool) → Option Unmet → Option Unmet
walked_over a v x true first = walked a v x (element (ty_of x)) first
walked_over a v x false first = first

abbrev pub for_each : Asked → p.Var → p.Expr → Option Unmet → Option Unmet
for_each a v x first = walked_over a v x (changed a x) first

-- ---- throw (JLS 14.18)

abbrev pub thrown : Asked → Node → p.Expr → Option Unmet → Option Unmet
thrown a n x first = unless (not (changed a x)) n.id kind.Throws first
