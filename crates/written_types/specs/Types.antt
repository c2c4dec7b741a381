-- The type that a written type says (JLS 4.3, 4.4, 4.5, 4.8, 6.5.5 and 10.1).
use Rattle.std.specs.Prelude.{ℕ, zero, suc, Bool, true, false, if◌then◌else◌, nat_eq, List, [], ◌∷◌, length, Option, Some, None, option_and_then}
use Rattle.std.specs.List.{position_from}
use Rattle.std.specs.Option.{option_map}
use Rattle.java_tree.specs.declared.tree.Name.{Name}
use Rattle.java_tree.specs.declared.tree.Head.{Head}
use Rattle.java_tree.specs.declared.tree.Head.TheVariants as head
use Rattle.java_tree.specs.Plain as t
use Rattle.java_tree.specs.Plain.{TypeExpr, TypeExprs}
use Rattle.class_world.specs.declared.world.JavaType.{JavaType}
use Rattle.class_world.specs.declared.world.JavaType.TheVariants as ty
use Rattle.written_types.specs.Places.{Place}

-- as many array levels around a type
abbrev pub arrays : ℕ → JavaType → JavaType
arrays zero x = x
arrays (suc d) x = ty.Array (arrays d x)

-- which of the type parameters has the name: the first one that has it
abbrev pub variable : Name → List Name → Option ℕ
variable n vars = position_from (λ v. nat_eq v.0 n.0) 0 vars

-- A type stands without arguments, raw if it is generic, or with as many as it has parameters.
abbrev pub takes : Option ℕ → ℕ → Bool
takes params zero = true
takes None (suc k) = false
takes (Some n) (suc k) = nat_eq n (suc k)

-- What a simple name says with these arguments. A type parameter of the class shadows the type that the name means elsewhere in the file (JLS 6.3.1).
abbrev pub named_type : Place → (among_vars mean : Option ℕ) → List JavaType → Option JavaType
named_type p (Some k) c [] = Some (ty.Var k)
named_type p (Some k) c (a ∷ args) = None
named_type p None None args = None
named_type p None (Some c) args = if takes (p.params c) (length args) then Some (ty.Class c args) else None

abbrev pub head_type : Place → Head → List JavaType → Option JavaType
head_type p (head.Prim q) [] = Some (ty.Prim q)
head_type p (head.Prim q) (a ∷ args) = None
head_type p (head.Path []) args = None
head_type p (head.Path (n ∷ [])) args = named_type p (variable n p.vars) (p.mean n) args
head_type p (head.Path (n ∷ m ∷ names)) args = None

abbrev pub joined : Option JavaType → Option (List JavaType) → Option (List JavaType)
joined None xs = None
joined (Some x) None = None
joined (Some x) (Some xs) = Some (x ∷ xs)

abbrev mutual
  -- a name's type with the types of its arguments, and the array levels around it
  pub type_of : Place → TypeExpr → Option JavaType
  type_of p (t.Written n h s xs d) = option_map (arrays d) (option_and_then (head_type p h) (types_of p xs))

  -- those of a list, if each has one
  pub types_of : Place → TypeExprs → Option (List JavaType)
  types_of p t.NoTypes = Some []
  types_of p (t.AndType x xs) = joined (type_of p x) (types_of p xs)
