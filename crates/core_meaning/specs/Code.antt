-- A checked program as it runs: its core, and what its world says of classes, members and types.
use Rattle.std.specs.Prelude.{◌↔◌, ℕ, zero, suc, ◌==◌, Bool, true, false, not, ◌&&◌, ◌||◌, IsTrue, List, [], ◌∷◌, ◌++◌, map, filter, flat_map, length, Option, Some, None, is_some, slice_get, option_and_then, if◌then◌else◌, pos}
use Rattle.std.specs.List.{find}
use Rattle.std.specs.Option.{option_map}
use Rattle.java_tree.specs.declared.tree.BinOp.{BinOp}
use Rattle.java_tree.specs.declared.tree.BinOp.TheVariants as bin
use Rattle.java_tree.specs.declared.tree.UnOp.TheVariants as un
use Rattle.java_tree.specs.declared.tree.Primitive.{Primitive}
use Rattle.java_tree.specs.declared.tree.Primitive.TheVariants as prim
use Rattle.class_world.specs.declared.world.World.{World}
use Rattle.class_world.specs.declared.world.TypeInfo.{TypeInfo}
use Rattle.class_world.specs.declared.world.FieldInfo.{FieldInfo}
use Rattle.class_world.specs.declared.world.JavaType.{JavaType}
use Rattle.class_world.specs.Subtypes.{Subtype}
use Rattle.class_world.specs.Overriding.{FoundIs}
use Rattle.java_core.specs.declared.expr.Kind.{Kind}
use Rattle.java_core.specs.declared.expr.Kind.TheVariants as kind
use Rattle.java_core.specs.declared.program.Implied.{Implied}
use Rattle.java_core.specs.Plain as e
use Rattle.type_kinds.specs.Kinds.{primitive, class_number, is_string, is_primitive}
use Rattle.type_kinds.specs.Members.{field_at, is_interface, is_static_field, is_final_field}
use Rattle.type_kinds.specs.OfWorld.{AreBoth}
use Rattle.core_meaning.specs.declared.values.Value.{Value}
use Rattle.core_meaning.specs.declared.values.Value.TheVariants as v
use Rattle.core_meaning.specs.declared.values.Held.{Held}
use Rattle.core_meaning.specs.declared.values.Thing.{Thing}
use Rattle.core_meaning.specs.declared.values.Thing.TheVariants.{Object}
use Rattle.core_meaning.specs.Texts.{number_units, truth_units, null_units}

-- The world, the texts of names by number, and the core; `found` is the method that runs for a method on an object of a class, and `sub` the order of types.
pub record Code : Type 0 where
  pub world : World
  pub names : List (List ℕ)
  pub core : e.Program
  pub found : (method class : ℕ) → Option ℕ
  pub sub : JavaType → JavaType → Bool

-- what is told of methods and types is what the world says
pub record IsTold (c : Code) : Type 0 where
  pub found : (m k : ℕ) → FoundIs c.world m k (c.found m k)
  pub sub : (s t : JavaType) → IsTrue (c.sub s t) ↔ (AreBoth c.world s t × Subtype c.world s t)

-- ---- classes and bodies

abbrev pub classes_of : List e.File → List e.Class
classes_of files = flat_map (λ (f : e.File). f.classes) files

-- what a file declares of a type
abbrev pub class_at : Code → ℕ → Option e.Class
class_at c k = find (λ (x : e.Class). x.number == k) (classes_of c.core.files)

abbrev pub methods_of : e.Member → List e.Method
methods_of (e.Fields n w vs) = []
methods_of (e.AMethod m) = m ∷ []

abbrev pub variables_of : e.Member → List e.FieldVar
variables_of (e.Fields n w vs) = vs
variables_of (e.AMethod m) = []

abbrev pub class_methods : e.Class → List e.Method
class_methods x = flat_map methods_of x.members

-- the fields that a class declares, in text order
abbrev pub class_fields : Option e.Class → List e.FieldVar
class_fields None = []
class_fields (Some x) = flat_map variables_of x.members

-- What a method or constructor of a file does: what is written, behind the constructor of the superclass that runs unsaid, if one does; or what the default constructor
-- of a class does (JLS 8.8.7, 8.8.9).
pub data Body : Type 0 where
  Written : (first : Option ℕ) → e.Stmt → Body
  Default : (first : ℕ) → Body

abbrev pub constructor_of : Option Implied → Option ℕ
constructor_of i = option_map (λ (x : Implied). x.constructor) i

abbrev pub default_body : Option Implied → Option Body
default_body i = option_map (λ (x : Implied). Default x.constructor) i

abbrev pub body_by : Option e.Method → (default : Option Implied) → Option Body
body_by None d = default_body d
body_by (Some x) d = option_map (Written (constructor_of x.implied)) x.body

abbrev pub body_in : ℕ → e.Class → Option Body
body_in m x = body_by (find (λ (y : e.Method). y.method == m) (class_methods x)) x.default

-- the body of the method or constructor m of the type k; an abstract method and a built-in one have none
abbrev pub body_of : Code → (k m : ℕ) → Option Body
body_of c k m = option_and_then (body_in m) (class_at c k)

-- ---- superclasses and fields

abbrev pub is_class_number : World → Option ℕ → Bool
is_class_number w None = false
is_class_number w (Some k) = not (is_interface w k)

-- the first class among supertypes
abbrev pub first_class : World → List JavaType → Option ℕ
first_class w [] = None
first_class w (t ∷ ts) = if is_class_number w (class_number t) then class_number t else first_class w ts

abbrev pub superclass_of : World → Option TypeInfo → Option ℕ
superclass_of w None = None
superclass_of w (Some i) = if i.interface then None else first_class w i.supers

abbrev pub superclass : World → ℕ → Option ℕ
superclass w k = superclass_of w (slice_get w.types k)

abbrev pub is_static_at : World → Option FieldInfo → Bool
is_static_at w None = false
is_static_at w (Some i) = is_static_field w i

abbrev pub is_instance_field : World → ℕ → Bool
is_instance_field w f = not (is_static_at w (field_at w f))

abbrev pub declared_fields : Option TypeInfo → List ℕ
declared_fields None = []
declared_fields (Some i) = i.fields

abbrev pub own_fields : World → ℕ → List ℕ
own_fields w k = filter (is_instance_field w) (declared_fields (slice_get w.types k))

-- the instance fields of a class and the classes above it, of which at most n are looked at
abbrev pub fields_above : ℕ → World → Option ℕ → List ℕ
fields_above zero w k = []
fields_above (suc n) w None = []
fields_above (suc n) w (Some k) = fields_above n w (superclass w k) ++ own_fields w k

-- those that an object of the class has, those of superclasses first
abbrev pub object_fields : World → ℕ → List ℕ
object_fields w k = fields_above (length w.types) w (Some k)

-- the value that a variable of this type has at first (4.12.5)
abbrev pub first_value : Option Primitive → Value
first_value (Some prim.Int) = v.Int (pos 0)
first_value (Some prim.Long) = v.Long (pos 0)
first_value (Some prim.Char) = v.Char 0
first_value (Some prim.Boolean) = v.Truth false
first_value None = v.Null

abbrev pub default_value : JavaType → Value
default_value t = first_value (primitive t)

abbrev pub first_held : World → ℕ → Option FieldInfo → Held
first_held w f None = record { field = f; value = v.Null }
first_held w f (Some i) = record { field = f; value = default_value i.ty }

-- a new object of a class
abbrev pub new_object : Code → ℕ → Thing
new_object c k = Object k (map (λ f. first_held c.world f (field_at c.world f)) (object_fields c.world k)) v.Null

-- ---- strings that count as literals

abbrev pub is_join_of : BinOp → Kind → Bool
is_join_of bin.Add kind.Text = true
is_join_of _ _ = false

abbrev pub both : Option (List ℕ) → Option (List ℕ) → Option (List ℕ)
both (Some xs) (Some ys) = Some (xs ++ ys)
both _ _ = None

abbrev pub only_if : Bool → Option (List ℕ) → Option (List ℕ)
only_if true x = x
only_if false x = None

-- The units of a literal, or of a concatenation of such alone, in brackets or not: it counts as one literal. A minus or a cast makes it none.
abbrev mutual
  pub literal_of : e.Expr → Option (List ℕ)
  literal_of (e.At n t x) = literal_form x

  pub literal_form : e.Form → Option (List ℕ)
  literal_form (e.Int z) = Some (number_units z)
  literal_form (e.Long z) = Some (number_units z)
  literal_form (e.Char c) = Some (c ∷ [])
  literal_form (e.Text units) = Some units
  literal_form (e.Truth b) = Some (truth_units b)
  literal_form e.Null = Some null_units
  literal_form (e.Paren x) = literal_of x
  literal_form (e.Binary op k x y) = only_if (is_join_of op k) (both (literal_of x) (literal_of y))
  literal_form _ = None

-- such a concatenation
abbrev pub joined_literal : BinOp → Kind → e.Expr → e.Expr → Option (List ℕ)
joined_literal op k x y = only_if (is_join_of op k) (both (literal_of x) (literal_of y))

-- ---- constant fields

-- what stands under the widening of a primitive
abbrev mutual
  pub unwidened : e.Expr → e.Form
  unwidened (e.At n t x) = unwidened_form x

  pub unwidened_form : e.Form → e.Form
  unwidened_form (e.Widen x) = unwidened x
  unwidened_form x = x

-- a concatenation of literals, in brackets or not; a plain literal in brackets is none
abbrev mutual
  pub is_concatenation : e.Expr → Bool
  is_concatenation (e.At n t x) = is_concatenation_form x

  pub is_concatenation_form : e.Form → Bool
  is_concatenation_form (e.Paren x) = is_concatenation x
  is_concatenation_form (e.Binary op k x y) = is_some (joined_literal op k x y)
  is_concatenation_form _ = false

-- a literal, or a concatenation of literals, in brackets or not; null is none, as no constant expression is null (15.28)
abbrev pub is_literal : e.Form → Bool
is_literal (e.Int z) = true
is_literal (e.Long z) = true
is_literal (e.Char x) = true
is_literal (e.Text x) = true
is_literal (e.Truth b) = true
is_literal (e.Paren x) = is_concatenation x
is_literal (e.Binary op k x y) = is_some (joined_literal op k x y)
is_literal _ = false

abbrev pub is_signed_literal : e.Form → Bool
is_signed_literal (e.Unary un.Minus x) = is_literal (unwidened x)
is_signed_literal x = is_literal x

abbrev pub is_constant_value : Option e.Expr → Bool
is_constant_value None = false
is_constant_value (Some x) = is_signed_literal (unwidened x)

-- Of these fields, is there one of this number whose initialiser is a literal with an optional minus, or a concatenation of literals?
abbrev pub has_constant : ℕ → List e.FieldVar → Bool
has_constant f [] = false
has_constant f (x ∷ xs) = (x.field == f && is_constant_value x.init) || has_constant f xs

abbrev pub is_constant_type : JavaType → Bool
is_constant_type t = is_primitive t || is_string t

-- a constant field: static and final, of a primitive type or String, with such an initialiser; it has its value from the start
abbrev pub is_constant_at : Code → ℕ → Option FieldInfo → Bool
is_constant_at c f None = false
is_constant_at c f (Some i) =
    is_static_field c.world i && is_final_field c.world (Some i) && is_constant_type i.ty && has_constant f (class_fields (class_at c i.owner))

abbrev pub is_constant : Code → ℕ → Bool
is_constant c f = is_constant_at c f (field_at c.world f)
