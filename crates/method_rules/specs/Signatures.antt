-- Erased signatures as keys.
use Rattle.std.specs.Prelude.{◌≡◌, List, [], ◌∷◌, flat_map}
use Rattle.java_tree.specs.declared.tree.Primitive.{Primitive}
use Rattle.java_tree.specs.declared.tree.Primitive.TheVariants as prim
use Rattle.class_world.specs.declared.world.JavaType.{JavaType}
use Rattle.class_world.specs.declared.world.JavaType.TheOpen as form
use Rattle.class_world.specs.declared.world.JavaType.TheOpen.{JavaType-F}
use Rattle.class_world.specs.declared.world.JavaType.TheFolds.{fold-JavaType}
use Rattle.class_world.specs.declared.world.MethodInfo.{MethodInfo}
use Rattle.method_rules.specs.declared.signatures.Part.{Part}
use Rattle.method_rules.specs.declared.signatures.Part.TheVariants as part
use Rattle.method_rules.specs.declared.signatures.Signature.{Signature}

abbrev pub primitive : Primitive → Part
primitive prim.Int = part.Int
primitive prim.Long = part.Long
primitive prim.Char = part.Char
primitive prim.Boolean = part.Boolean

-- the erasure of a type whose element is written already
abbrev pub written : JavaType-F (List Part) → List Part
written (form.Prim p) = primitive p ∷ []
written form.Null = part.Null ∷ []
written (form.Class c xs) = part.Class c ∷ []
written (form.Var k) = part.Class 0 ∷ []
written (form.Array x) = part.Level ∷ x

-- a type's erasure
abbrev pub parts : JavaType → List Part
parts = fold-JavaType (List Part) written

-- the key holds what AreAlike asks of a method
abbrev pub IsSignatureOf : MethodInfo → Signature → Type 0
IsSignatureOf m s = (s.owner ≡ m.owner) × (s.name ≡ m.name.0) × (s.constructor ≡ m.constructor) × (s.params.items ≡ flat_map parts m.params)
