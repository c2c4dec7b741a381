-- Kinds of types, and the types that operators work on (JLS 4.2, 4.3, 5.6).
use Rattle.std.specs.Prelude.{ℕ, Bool, true, false, ◌||◌, not, List, [], ◌∷◌, Option, Some, None, is_some, ◌==◌, if◌then◌else◌}
use Rattle.std.specs.List.{list_any}
use Rattle.java_tree.specs.declared.tree.Mod.{Mod}
use Rattle.java_tree.specs.declared.tree.Mod.TheVariants as mods
use Rattle.java_tree.specs.declared.tree.Primitive.{Primitive}
use Rattle.java_tree.specs.declared.tree.Primitive.TheVariants as prim
use Rattle.class_world.specs.declared.world.JavaType.{JavaType, out-JavaType}
use Rattle.class_world.specs.declared.world.JavaType.TheVariants as ty
use Rattle.class_world.specs.declared.world.JavaType.TheOpen as form
use Rattle.class_world.specs.declared.world.JavaType.TheOpen.{JavaType-F}
use Rattle.java_core.specs.declared.expr.Kind.{Kind}
use Rattle.java_core.specs.declared.expr.Kind.TheVariants as kind
use Rattle.java_core.specs.Plain as p

abbrev pub int : JavaType
int = ty.Prim prim.Int

abbrev pub long : JavaType
long = ty.Prim prim.Long

abbrev pub char : JavaType
char = ty.Prim prim.Char

abbrev pub boolean : JavaType
boolean = ty.Prim prim.Boolean

-- the built-in class String
abbrev pub string : JavaType
string = ty.Class 1 []

-- the built-in class Throwable
abbrev pub throwable : JavaType
throwable = ty.Class 4 []

-- ---- kinds of types

abbrev pub primitive_form : JavaType-F JavaType → Option Primitive
primitive_form (form.Prim q) = Some q
primitive_form _ = None

abbrev pub primitive : JavaType → Option Primitive
primitive t = primitive_form (out-JavaType t)

abbrev pub element_form : JavaType-F JavaType → Option JavaType
element_form (form.Array x) = Some x
element_form _ = None

-- the type of an array's items
abbrev pub element : JavaType → Option JavaType
element t = element_form (out-JavaType t)

abbrev pub class_form : JavaType-F JavaType → Option ℕ
class_form (form.Class c xs) = Some c
class_form _ = None

abbrev pub class_number : JavaType → Option ℕ
class_number t = class_form (out-JavaType t)

abbrev pub args_form : JavaType-F JavaType → List JavaType
args_form (form.Class c xs) = xs
args_form _ = []

abbrev pub args_of : JavaType → List JavaType
args_of t = args_form (out-JavaType t)

abbrev pub reference_form : JavaType-F JavaType → Bool
reference_form (form.Class c xs) = true
reference_form (form.Var k) = true
reference_form (form.Array x) = true
reference_form _ = false

-- the type of null is none
abbrev pub is_reference : JavaType → Bool
is_reference t = reference_form (out-JavaType t)

-- a type variable, or an array of one, of any depth
abbrev pub is_reified_form : JavaType-F Bool → Bool
is_reified_form (form.Var k) = false
is_reified_form (form.Array x) = x
is_reified_form _ = true

abbrev pub is_primitive : JavaType → Bool
is_primitive t = is_some (primitive t)

abbrev pub is_string_form : JavaType-F JavaType → Bool
is_string_form (form.Class c xs) = c == 1
is_string_form _ = false

abbrev pub is_string : JavaType → Bool
is_string t = is_string_form (out-JavaType t)

-- ---- primitives

abbrev pub numeric_primitive : Option Primitive → Bool
numeric_primitive None = false
numeric_primitive (Some prim.Boolean) = false
numeric_primitive (Some _) = true

abbrev pub is_numeric : JavaType → Bool
is_numeric t = numeric_primitive (primitive t)

abbrev pub boolean_primitive : Option Primitive → Bool
boolean_primitive (Some prim.Boolean) = true
boolean_primitive _ = false

abbrev pub is_boolean : JavaType → Bool
is_boolean t = boolean_primitive (primitive t)

abbrev pub long_primitive : Option Primitive → Bool
long_primitive (Some prim.Long) = true
long_primitive _ = false

abbrev pub is_long : JavaType → Bool
is_long t = long_primitive (primitive t)

-- an index, a size and what a switch selects on
abbrev pub short_primitive : Option Primitive → Bool
short_primitive (Some prim.Int) = true
short_primitive (Some prim.Char) = true
short_primitive _ = false

abbrev pub is_short : JavaType → Bool
is_short t = short_primitive (primitive t)

abbrev pub same_primitive : Primitive → Primitive → Bool
same_primitive prim.Int prim.Int = true
same_primitive prim.Long prim.Long = true
same_primitive prim.Char prim.Char = true
same_primitive prim.Boolean prim.Boolean = true
same_primitive _ _ = false

-- what two numbers are made before an operator works on them (5.6.2)
abbrev pub joint_kind : (s t : JavaType) → Kind
joint_kind s t = if is_long s || is_long t then kind.Long else kind.Int

-- the same of one (5.6.1)
abbrev pub lone_kind : JavaType → Kind
lone_kind t = if is_long t then kind.Long else kind.Int

abbrev pub kind_type : Kind → JavaType
kind_type kind.Int = int
kind_type kind.Long = long
kind_type kind.Boolean = boolean
kind_type kind.Reference = ty.Class 0 []
kind_type kind.Text = string

-- ---- conversions

abbrev pub ty_of : p.Expr → JavaType
ty_of (p.At n t f) = t

abbrev pub node_of : p.Expr → ℕ
node_of (p.At n t f) = n.id

abbrev pub form_of : p.Expr → p.Form
form_of (p.At n t f) = f

abbrev pub differ : Option Primitive → Option Primitive → Bool
differ (Some q) (Some r) = not (same_primitive q r)
differ _ _ = false

abbrev pub widened_if : Bool → JavaType → p.Expr → p.Expr
widened_if false t x = x
widened_if true t (p.At n u f) = p.At n t (p.Widen (p.At n u f))

-- A primitive that goes to one of another type is widened (5.1.2).
abbrev pub converted : JavaType → p.Expr → p.Expr
converted t x = widened_if (differ (primitive t) (primitive (ty_of x))) t x

-- each argument, for its parameter's type
abbrev pub converted_all : List JavaType → List p.Expr → List p.Expr
converted_all [] xs = []
converted_all (t ∷ ts) [] = []
converted_all (t ∷ ts) (x ∷ xs) = converted t x ∷ converted_all ts xs

-- an operand of an operator on numbers
abbrev pub operand : Kind → p.Expr → p.Expr
operand k x = converted (kind_type k) x

-- ---- modifiers

abbrev pub same_mod : Mod → Mod → Bool
same_mod mods.Public mods.Public = true
same_mod mods.Protected mods.Protected = true
same_mod mods.Private mods.Private = true
same_mod mods.Static mods.Static = true
same_mod mods.Abstract mods.Abstract = true
same_mod mods.Final mods.Final = true
same_mod _ _ = false

abbrev pub has : Mod → List Mod → Bool
has m xs = list_any (λ x. same_mod x m) xs
