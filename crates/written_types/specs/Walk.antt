-- What the code answers at each step: the first broken rule so far goes in, and the first one behind the types comes out.
use Rattle.std.specs.Prelude.{ℕ, Bool, false, not, List, [], ◌∷◌, Option, Some, None}
use Rattle.java_tree.specs.declared.tree.Name.{Name}
use Rattle.java_tree.specs.declared.tree.Head.{Head}
use Rattle.java_tree.specs.declared.tree.Head.TheVariants as head
use Rattle.java_tree.specs.Plain as t
use Rattle.java_tree.specs.Plain.{TypeExpr, TypeExprs}
use Rattle.class_world.specs.declared.world.JavaType.{JavaType}
use Rattle.class_world.specs.declared.world.JavaType.TheVariants as ty
use Rattle.rule_order.specs.declared.Breach.{Breach}
use Rattle.rule_order.specs.Noted.{noted}
use Rattle.written_types.specs.declared.scope.Named.{Named}
use Rattle.written_types.specs.declared.scope.Named.TheVariants as named
use Rattle.written_types.specs.Places.{Place}
use Rattle.written_types.specs.Types.{variable, takes}
use Rattle.written_types.specs.Breaks.{length_of}

-- ---- names

abbrev pub named_by : (among_vars mean : Option ℕ) → Named
named_by (Some k) c = named.Variable k
named_by None (Some c) = named.Type c
named_by None None = named.Nothing

abbrev pub path_named : Place → List Name → Named
path_named p [] = named.Nothing
path_named p (n ∷ []) = named_by (variable n p.vars) (p.mean n)
path_named p (n ∷ m ∷ names) = named.Nothing

abbrev pub head_named : Place → Head → Named
head_named p (head.Prim q) = named.Primitive q
head_named p (head.Path path) = path_named p path

-- ---- the test of the rule

-- whether what is named is a type with so many arguments
abbrev pub well_by : Place → Named → (arguments : ℕ) → Bool
well_by p (named.Primitive q) count = takes None count
well_by p (named.Variable k) count = takes None count
well_by p (named.Type c) count = takes (p.params c) count
well_by p named.Nothing count = false

abbrev pub is_ill_named : Place → TypeExpr → Bool
is_ill_named p (t.Written n h s xs d) = not (well_by p (head_named p h) (length_of xs))

-- the type that is named, with these arguments
abbrev pub made_by : Named → List JavaType → Option JavaType
made_by (named.Primitive q) args = Some (ty.Prim q)
made_by (named.Variable k) args = Some (ty.Var k)
made_by (named.Type c) args = Some (ty.Class c args)
made_by named.Nothing args = None

-- ---- the walk over written types

abbrev mutual
  pub type : Place → TypeExpr → Option Breach → Option Breach
  type p (t.Written n h s xs d) a = types p xs (noted a 1 n (is_ill_named p (t.Written n h s xs d)))

  pub types : Place → TypeExprs → Option Breach → Option Breach
  types p t.NoTypes a = a
  types p (t.AndType x xs) a = types p xs (type p x a)
