-- What objects are at run time: the names of their classes, and their types.
use Rattle.std.specs.Prelude.{ℕ, List, [], ◌∷◌, ◌++◌, flat_map, Option, Some, None, slice_get, unwrap_or, codes}
use Rattle.std.specs.Option.{option_map}
use Rattle.java_tree.specs.declared.tree.Name.{Name}
use Rattle.java_tree.specs.declared.tree.Primitive.TheVariants as prim
use Rattle.class_world.specs.declared.world.TypeInfo.{TypeInfo}
use Rattle.class_world.specs.declared.world.JavaType.{JavaType}
use Rattle.class_world.specs.declared.world.JavaType.TheVariants as ty
use Rattle.class_world.specs.declared.world.JavaType.TheOpen as form
use Rattle.class_world.specs.declared.world.JavaType.TheOpen.{JavaType-F}
use Rattle.class_world.specs.declared.world.JavaType.TheFolds.{fold-JavaType}
use Rattle.core_meaning.specs.declared.values.Value.{Value}
use Rattle.core_meaning.specs.declared.values.Value.TheVariants as v
use Rattle.core_meaning.specs.declared.values.Thing.{Thing}
use Rattle.core_meaning.specs.declared.values.State.{State}
use Rattle.core_meaning.specs.declared.values.Thing.TheVariants.{Object, Array}
use Rattle.core_meaning.specs.State.{thing_at}
use Rattle.core_meaning.specs.BuiltIns.{object_class, string_class}
use Rattle.core_meaning.specs.Code.{Code}

-- ---- names of classes

abbrev pub text_of_name : Code → Name → List ℕ
text_of_name c n = unwrap_or (slice_get c.names n.0) []

-- the parts of a package, each with a dot behind it
abbrev pub package_units : Code → List Name → List ℕ
package_units c ns = flat_map (λ n. text_of_name c n ++ 46 ∷ []) ns

abbrev pub full_name_of : Code → Option TypeInfo → List ℕ
full_name_of c None = []
full_name_of c (Some i) = package_units c i.«package» ++ text_of_name c i.name

-- the full name of a class
abbrev pub full_name : Code → ℕ → List ℕ
full_name c k = full_name_of c (slice_get c.world.types k)

abbrev pub named : Code → ℕ → List ℕ
named c k = codes "L" ++ full_name c k ++ codes ";"

-- how an array's class names the type of its elements, by its erasure
abbrev pub element_name : Code → JavaType-F (List ℕ) → List ℕ
element_name c (form.Prim prim.Int) = codes "I"
element_name c (form.Prim prim.Long) = codes "J"
element_name c (form.Prim prim.Char) = codes "C"
element_name c (form.Prim prim.Boolean) = codes "Z"
element_name c form.Null = named c object_class
element_name c (form.Class k xs) = named c k
element_name c (form.Var k) = named c object_class
element_name c (form.Array x) = codes "[" ++ x

abbrev pub array_name : Code → JavaType → List ℕ
array_name c t = codes "[" ++ fold-JavaType (List ℕ) (element_name c) t

-- the name of the class of an object or array
abbrev pub name_of : Code → Thing → List ℕ
name_of c (Object k hs m) = full_name c k
name_of c (Array t xs) = array_name c t

-- that of the class of what has a number
abbrev pub name_at : Code → ℕ → State → Option (List ℕ)
name_at c r s = option_map (name_of c) (thing_at r s)

-- ---- what a value is

-- the class in which a method of an object or array is looked up
abbrev pub class_of_thing : Thing → ℕ
class_of_thing (Object k hs m) = k
class_of_thing (Array t xs) = object_class

abbrev pub class_of : Value → State → Option ℕ
class_of (v.Ref r) s = option_map class_of_thing (thing_at r s)
class_of (v.Text k) s = Some string_class
class_of _ s = None

abbrev pub type_of_thing : Thing → JavaType
type_of_thing (Object k hs m) = ty.Class k []
type_of_thing (Array t xs) = ty.Array t

-- the type that a reference has at run time; null has none
abbrev pub type_of : Value → State → Option JavaType
type_of (v.Ref r) s = option_map type_of_thing (thing_at r s)
type_of (v.Text k) s = Some (ty.Class string_class [])
type_of _ s = None
