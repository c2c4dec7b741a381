-- Written types in bodies (JLS 4.3 to 4.5, 6.5.5): T1 to T3.
use Rattle.std.specs.Prelude.{ℕ, zero, suc, Bool, true, false, not, List, [], ◌∷◌, map, Option, Some, None, slice_get, nat_eq, ◌+◌}
use Rattle.std.specs.Option.{option_map}
use Rattle.java_tree.specs.declared.tree.Node.{Node}
use Rattle.java_tree.specs.declared.tree.Span.{Span}
use Rattle.java_tree.specs.declared.tree.Name.{Name}
use Rattle.java_tree.specs.declared.tree.Head.{Head}
use Rattle.java_tree.specs.declared.tree.Head.TheVariants as head
use Rattle.java_tree.specs.Plain as t
use Rattle.class_world.specs.declared.world.World.{World}
use Rattle.class_world.specs.declared.world.JavaType.{JavaType}
use Rattle.class_world.specs.declared.world.JavaType.TheVariants as ty
use Rattle.java_core.specs.Plain as p
use Rattle.java_core.specs.View.{type_row}
use Rattle.checked.specs.Checked.{Checked, Fine, Broken, and_then, under, also}
use Rattle.written_types.specs.declared.scope.Named.{Named}
use Rattle.written_types.specs.declared.scope.Named.TheVariants as named
use Rattle.written_types.specs.Types.{arrays, variable}
use Rattle.type_facts.specs.Facts.{Facts}
use Rattle.type_facts.specs.declared.scope.Place.{Place}

-- what a simple name says: a type parameter of the class around, which shadows a type of its name, or the type that it means in the file (6.3.1)
abbrev pub named_by : (among_vars mean : Option ℕ) → Named
named_by (Some k) c = named.Variable k
named_by None (Some c) = named.Type c
named_by None None = named.Nothing

abbrev pub path_named : Facts → Place → List Name → Named
path_named f g [] = named.Nothing
path_named f g (x ∷ []) = named_by (variable x g.vars) (f.mean x)
path_named f g (x ∷ y ∷ xs) = named.Nothing

abbrev pub head_named : Facts → Place → Head → Named
head_named f g (head.Prim q) = named.Primitive q
head_named f g (head.Path xs) = path_named f g xs

-- no arguments, or as many as the type has parameters
abbrev pub takes : Option ℕ → (arguments : ℕ) → Bool
takes params zero = true
takes None (suc k) = false
takes (Some n) (suc k) = nat_eq n (suc k)

-- how many parameters the type of a number has
abbrev pub params_at : World → ℕ → Option ℕ
params_at w c = option_map (λ info. info.params) (slice_get w.types c)

-- the first rule that is broken at the written type itself, where it has so many arguments: T1 that it names a type, T2 the number of arguments, T3 that no type
-- parameter stands in a static member
abbrev pub well_named : Facts → Place → (node : ℕ) → Named → (arguments : ℕ) → Checked Named
well_named f g n (named.Primitive q) k = under (takes None k) n 2 (Fine (named.Primitive q))
well_named f g n (named.Variable v) k = under (takes None k) n 2 (under (not g.in_static) n 3 (Fine (named.Variable v)))
well_named f g n (named.Type c) k = under (takes (params_at f.world c) k) n 2 (Fine (named.Type c))
well_named f g n named.Nothing k = Broken n 1

abbrev pub said : Named → List JavaType → JavaType
said (named.Primitive q) args = ty.Prim q
said (named.Variable v) args = ty.Var v
said (named.Type c) args = ty.Class c args
said named.Nothing args = ty.Null

abbrev pub type_said : p.Written → JavaType
type_said (p.AType n h x args) = x

abbrev pub count : t.TypeExprs → ℕ
count t.NoTypes = 0
count (t.AndType x xs) = count xs + 1

abbrev pub made : Node → (head : Span) → (levels : ℕ) → Named → List p.Written → p.Written
made n s d x args = p.AType n s (arrays d (said x (map type_said args))) (type_row args)

abbrev mutual
  pub written : Facts → Place → t.TypeExpr → Checked p.Written
  written f g (t.Written n h s xs d) = and_then (well_named f g n.id (head_named f g h) (count xs)) (λ x. and_then (writtens f g xs) (λ args. Fine (made n s d x args)))

  pub writtens : Facts → Place → t.TypeExprs → Checked (List p.Written)
  writtens f g t.NoTypes = Fine []
  writtens f g (t.AndType x xs) = and_then (written f g x) (λ x. also x (writtens f g xs))
