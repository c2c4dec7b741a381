-- Types: arguments put for type variables (JLS 4.5), erasure (4.6), and the types that a world has.
use Rattle.std.specs.Prelude.{◌≡◌, ℕ, zero, suc, ◌+◌, ◌<◌, ◌⊎◌, List, [], ◌∷◌, Some, slice_get, length, unwrap_or}
use Rattle.java_tree.specs.declared.tree.Primitive.{Primitive}
use Rattle.class_world.specs.declared.world.World.{World}
use Rattle.class_world.specs.declared.world.TypeInfo.{TypeInfo}
use Rattle.class_world.specs.declared.world.JavaType.{JavaType}
use Rattle.class_world.specs.declared.world.JavaType.TheVariants as ty
use Rattle.class_world.specs.declared.world.JavaType.TheOpen as form
use Rattle.class_world.specs.declared.world.JavaType.TheOpen.{JavaType-F}
use Rattle.class_world.specs.declared.world.JavaType.TheFolds.{fold-JavaType}

-- Object has the number 0
abbrev pub object_type : JavaType
object_type = ty.Class 0 []

-- a type whose parts have their arguments already
abbrev pub put : List JavaType → JavaType-F JavaType → JavaType
put args (form.Prim p) = ty.Prim p
put args form.Null = ty.Null
put args (form.Class c xs) = ty.Class c xs
put args (form.Var k) = unwrap_or (slice_get args k) (ty.Var k)
put args (form.Array x) = ty.Array x

-- the type with the k-th argument in place of the variable k, for each k
abbrev pub substitute : List JavaType → JavaType → JavaType
substitute args = fold-JavaType JavaType (put args)

-- the erasure of a type whose element is erased already
abbrev pub without_arguments : JavaType-F JavaType → JavaType
without_arguments (form.Prim p) = ty.Prim p
without_arguments form.Null = ty.Null
without_arguments (form.Class c xs) = ty.Class c []
without_arguments (form.Var k) = object_type
without_arguments (form.Array x) = ty.Array x

-- The erasure of a type (4.6). No type variable has a bound, so that its erasure is Object.
abbrev pub erased : JavaType → JavaType
erased = fold-JavaType JavaType without_arguments

-- n type variables from k on
abbrev pub variables : ℕ → ℕ → List JavaType
variables k zero = []
variables k (suc n) = ty.Var k ∷ variables (k + 1) n

-- a class of n type parameters with its own variables as arguments
abbrev pub with_own : ℕ → ℕ → JavaType
with_own c n = ty.Class c (variables 0 n)

-- the reference types (4.3), the null type aside
pub data IsReference : JavaType → Type 0 where
  of_class : (c : ℕ) (args : List JavaType) → IsReference (ty.Class c args)
  of_variable : (k : ℕ) → IsReference (ty.Var k)
  of_array : (element : JavaType) → IsReference (ty.Array element)

abbrev pub AreReferences : List JavaType → Type 0
AreReferences args = (k : ℕ) (a : JavaType) → slice_get args k ≡ Some a → IsReference a

-- A type of the world where n type variables are in scope: each class is one of the world and is raw or has as many arguments as parameters (4.5),
-- each argument is a reference type, and no array has elements of the null type.
pub data IsTypeOver (w : World) (n : ℕ) : JavaType → Type 0 where
  a_primitive : (p : Primitive) → IsTypeOver w n (ty.Prim p)
  the_null : IsTypeOver w n ty.Null
  a_class : {c : ℕ} {args : List JavaType} {info : TypeInfo} → slice_get w.types c ≡ Some info → (args ≡ []) ⊎ (length args ≡ info.params) → AreReferences args
      → ((k : ℕ) (a : JavaType) → slice_get args k ≡ Some a → IsTypeOver w n a) → IsTypeOver w n (ty.Class c args)
  a_variable : {k : ℕ} → k < n → IsTypeOver w n (ty.Var k)
  an_array : {element : JavaType} → (element ≡ ty.Null → ⊥) → IsTypeOver w n element → IsTypeOver w n (ty.Array element)
