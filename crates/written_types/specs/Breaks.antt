-- The rule on written types: DR1, that each names a type.
use Rattle.std.specs.Prelude.{◌≡◌, ℕ, zero, suc, ◌⊎◌, ◌↔◌, [], ◌∷◌, Some, Contains}
use Rattle.java_tree.specs.declared.tree.Node.{Node}
use Rattle.java_tree.specs.declared.tree.Name.{Name}
use Rattle.java_tree.specs.declared.tree.Head.{Head}
use Rattle.java_tree.specs.declared.tree.Head.TheVariants as head
use Rattle.java_tree.specs.declared.tree.Primitive.{Primitive}
use Rattle.java_tree.specs.Plain as t
use Rattle.java_tree.specs.Plain.{TypeExpr, TypeExprs}
use Rattle.class_world.specs.declared.world.JavaType.{JavaType}
use Rattle.rule_order.specs.declared.Breach.{Breach}
use Rattle.rule_order.specs.First.{Breaches}
use Rattle.rule_order.specs.Noted.{At}
use Rattle.written_types.specs.Places.{Place}
use Rattle.written_types.specs.Types.{type_of}

-- ---- written types within others

abbrev pub IsOneOf : TypeExprs → TypeExpr → Type 0
IsOneOf t.NoTypes y = ⊥
IsOneOf (t.AndType x xs) y = (y ≡ x) ⊎ IsOneOf xs y

abbrev pub IsArgument : TypeExpr → TypeExpr → Type 0
IsArgument (t.Written n h s xs d) y = IsOneOf xs y

-- the second stands in the first, or is it
pub data IsWithin : TypeExpr → TypeExpr → Type 0 where
  itself : (x : TypeExpr) → IsWithin x x
  below : (x y z : TypeExpr) → IsArgument x y → IsWithin y z → IsWithin x z

abbrev pub node_of : TypeExpr → Node
node_of (t.Written n h s xs d) = n

abbrev pub head_of : TypeExpr → Head
head_of (t.Written n h s xs d) = h

abbrev pub args_of : TypeExpr → TypeExprs
args_of (t.Written n h s xs d) = xs

abbrev pub length_of : TypeExprs → ℕ
length_of t.NoTypes = zero
length_of (t.AndType x xs) = suc (length_of xs)

-- ---- DR1

-- the head is a type parameter of the class
abbrev pub NamesVariable : Place → Head → Type 0
NamesVariable p h = (n : Name) × (h ≡ head.Path (n ∷ [])) × Contains p.vars n

-- the head is the simple name of the type of this number
abbrev pub NamesType : Place → Head → ℕ → Type 0
NamesType p h c = (n : Name) × (h ≡ head.Path (n ∷ [])) × (Contains p.vars n → ⊥) × (p.mean n ≡ Some c)

-- A primitive type or a type parameter without arguments, or a type without arguments or with as many as it has parameters.
abbrev pub IsWellNamed : Place → Head → TypeExprs → Type 0
IsWellNamed p h xs =
    ((q : Primitive) × (h ≡ head.Prim q) × (xs ≡ t.NoTypes))
    ⊎ (NamesVariable p h × (xs ≡ t.NoTypes))
    ⊎ ((c : ℕ) × NamesType p h c × ((xs ≡ t.NoTypes) ⊎ (p.params c ≡ Some (length_of xs))))

-- DR1 at a written type. Its arguments are written types of their own.
abbrev pub IsIllNamed : Place → TypeExpr → Type 0
IsIllNamed p (t.Written n h s xs d) = IsWellNamed p h xs → ⊥

-- DR1 at a written type or within it
abbrev pub IllNamed : Place → TypeExpr → Breaches
IllNamed p x b = (y : TypeExpr) × IsWithin x y × At 1 (node_of y) (IsIllNamed p y) b

-- A written type says a type exactly where DR1 is broken nowhere within it.
abbrev pub IsTypedWhereNamed : Place → TypeExpr → Type 0
IsTypedWhereNamed p x = ((y : JavaType) × (type_of p x ≡ Some y)) ↔ ((b : Breach) → IllNamed p x b → ⊥)
