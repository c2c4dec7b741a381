-- Signatures as rows of parts.
use Rattle.std.specs.Prelude.{List, [], ◌∷◌, length}
use Rattle.std.specs.List.{flat_map}
use Rattle.java_tree.specs.declared.tree.Name.{Name}
use Rattle.java_tree.specs.declared.tree.Primitive.{Primitive}
use Rattle.java_tree.specs.declared.tree.Primitive.TheVariants as prim
use Rattle.class_world.specs.declared.world.JavaType.{JavaType}
use Rattle.class_world.specs.declared.world.JavaType.TheOpen as form
use Rattle.class_world.specs.declared.world.JavaType.TheOpen.{JavaType-F}
use Rattle.class_world.specs.declared.world.JavaType.TheFolds.{fold-JavaType}
use Rattle.signature_numbers.specs.declared.codes.Part.{Part}
use Rattle.signature_numbers.specs.declared.codes.Part.TheVariants as part

abbrev pub primitive : Primitive → Part
primitive prim.Int = part.Int
primitive prim.Long = part.Long
primitive prim.Char = part.Char
primitive prim.Boolean = part.Boolean

-- a type whose parts are written already
abbrev pub written : JavaType-F (List Part) → List Part
written (form.Prim p) = primitive p ∷ []
written form.Null = part.Null ∷ []
written (form.Class c xs) = part.Class c (length xs) ∷ flat_map (λ x. x) xs
written (form.Var k) = part.Var k ∷ []
written (form.Array x) = part.Level ∷ x

abbrev pub parts : JavaType → List Part
parts = fold-JavaType (List Part) written

-- a name with parameter types
abbrev pub code : Name → List JavaType → List Part
code a ps = part.Named a.0 ∷ flat_map parts ps
