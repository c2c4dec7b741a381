-- The first constraint that stands against a change (Tip et al. 2011), a clause a form.
use Rattle.std.specs.Prelude.{ℕ, Bool, false, List, [], ◌∷◌, Option, Some, None, take}
use Rattle.java_tree.specs.declared.tree.Node.{Node}
use Rattle.java_tree.specs.declared.tree.Name.{Name}
use Rattle.class_world.specs.declared.world.JavaType.{JavaType}
use Rattle.java_core.specs.declared.expr.Before.{Before}
use Rattle.java_core.specs.Plain as p
use Rattle.type_kinds.specs.Kinds.{ty_of}
use Rattle.type_kinds.specs.Members.{field_at, method_at}
use Rattle.type_facts.specs.Facts.{Facts}
use Rattle.type_places.specs.declared.changes.Changes.{Changes}
use Rattle.type_constraints.specs.declared.unmet.Unmet.{Unmet}
use Rattle.type_constraints.specs.Asked.{Asked, Ties}
use Rattle.type_constraints.specs.Changed.{appended, arms, changed, field_init, flow, for_each, given, init, is_local, items, joined, thrown}
use Rattle.type_constraints.specs.Uses.{field_use, maybe_field_use, maybe_method_use, method_use}
use Rattle.type_constraints.specs.Arguments.{arguments, own_type, static_arguments, super_type}
use Rattle.type_constraints.specs.Declarations.{declaration}

-- ---- expressions

-- the method k of the value x is called at a node
abbrev pub called : Asked → Node → p.Expr → (simple : Bool) → (k : ℕ) → p.Exprs → Option Unmet → Option Unmet
called a n x simple k xs s = arguments a simple (ty_of x) k xs (method_use a n x k s)

abbrev pub called_static : Asked → Node → Before → p.MaybeExpr → (k : ℕ) → p.Exprs → Option Unmet → Option Unmet
called_static a n b x k xs s = static_arguments a b x k xs (maybe_method_use a n x k s)

abbrev mutual
  pub value : Asked → p.Expr → Option Unmet → Option Unmet
  value a (p.At n t x) s = value_form a n t x s

  pub value_form : Asked → Node → JavaType → p.Form → Option Unmet → Option Unmet
  value_form a n t (p.Paren x) s = value a x s
  value_form a n t (p.Widen x) s = value a x s
  value_form a n t (p.Implied x) s = value a x s
  value_form a n t (p.Field x simple k) s = field_use a n x k (value a x s)
  value_form a n t (p.StaticField b x k) s = maybe_field_use a n x k (maybe_value a x s)
  value_form a n t (p.Length x) s = value a x s
  value_form a n t (p.Index x y) s = value a y (value a x s)
  value_form a n t (p.Call x simple k xs) s = called a n x simple k xs (values a xs (value a x s))
  value_form a n t (p.SuperCall k xs) s = arguments a false (super_type a) k xs (values a xs s)
  value_form a n t (p.StaticCall b x k xs) s = called_static a n b x k xs (values a xs (maybe_value a x s))
  value_form a n t (p.New w k xs) s = arguments a false t k xs (values a xs s)
  value_form a n t (p.NewArray w xs) s = values a xs s
  value_form a n t (p.NewFilled w x) s = value a x s
  value_form a n t (p.Filled xs) s = items a t xs (values a xs s)
  value_form a n t (p.Unary op x) s = value a x s
  value_form a n t (p.Step up before x) s = value a x s
  value_form a n t (p.Cast w close x) s = value a x s
  value_form a n t (p.Binary op kind x y) s = joined a kind x y (value a y (value a x s))
  value_form a n t (p.Logic b x y) s = value a y (value a x s)
  value_form a n t (p.InstanceOf x w) s = value a x s
  value_form a n t (p.Cond x y z) s = arms a n y z (value a z (value a y (value a x s)))
  value_form a n t (p.Assign x y) s = flow a (changed a x) (ty_of x) y (value a y (value a x s))
  value_form a n t (p.Compound op kind x y) s = appended a kind x (value a y (value a x s))
  value_form a n t _ s = s

  pub values : Asked → p.Exprs → Option Unmet → Option Unmet
  values a p.End s = s
  values a (p.Also x xs) s = values a xs (value a x s)

  pub maybe_value : Asked → p.MaybeExpr → Option Unmet → Option Unmet
  maybe_value a p.NoExpr s = s
  maybe_value a (p.AnExpr x) s = value a x s

abbrev pub optional : Asked → Option p.Expr → Option Unmet → Option Unmet
optional a None s = s
optional a (Some x) s = value a x s

abbrev pub var_init : Asked → (is_changed : Bool) → JavaType → Option p.Expr → Option Unmet → Option Unmet
var_init a b t None s = s
var_init a b t (Some x) s = init a b t x (value a x s)

abbrev pub vars : Asked → List p.Var → Option Unmet → Option Unmet
vars a [] s = s
vars a (v ∷ vs) s = vars a vs (var_init a (is_local a.change a.method v.slot v.node) v.ty v.init s)

-- ---- statements

abbrev pub returned : Asked → Option p.Expr → Option Unmet → Option Unmet
returned a None s = s
returned a (Some x) s = given a a.method x (value a x s)

abbrev mutual
  pub walk : Asked → p.Stmt → Option Unmet → Option Unmet
  walk a (p.Block n ss) s = walks a ss s
  walk a (p.Locals n is_final w vs) s = vars a vs s
  walk a (p.Empty n) s = s
  walk a (p.Value n x) s = value a x s
  walk a (p.If n x y z) s = maybe_walk a z (walk a y (value a x s))
  walk a (p.While n x y) s = walk a y (value a x s)
  walk a (p.Do n y x) s = value a x (walk a y s)
  walk a (p.For n ss x xs y) s = walk a y (values a xs (optional a x (walks a ss s)))
  walk a (p.ForEach n is_final w v x item implied y) s = walk a y (for_each a v x (value a x s))
  walk a (p.Switch n x gs) s = groups a gs (value a x s)
  walk a (p.Break n) s = s
  walk a (p.Continue n) s = s
  walk a (p.Return n x) s = returned a x s
  walk a (p.Throw n x) s = thrown a n x (value a x s)
  walk a (p.Try n y cs z) s = maybe_walk a z (catches a cs (walk a y s))
  walk a (p.ThisCall n k xs) s = arguments a false (own_type a) k xs (values a xs s)
  walk a (p.SuperFirst n k xs) s = arguments a false (super_type a) k xs (values a xs s)

  pub maybe_walk : Asked → p.MaybeStmt → Option Unmet → Option Unmet
  maybe_walk a p.NoStmt s = s
  maybe_walk a (p.AStmt y) s = walk a y s

  pub walks : Asked → p.Stmts → Option Unmet → Option Unmet
  walks a p.Last s = s
  walks a (p.Then y ss) s = walks a ss (walk a y s)

  pub groups : Asked → p.Groups → Option Unmet → Option Unmet
  groups a p.NoGroup s = s
  groups a (p.AndGroup (p.Labelled n ls ss) gs) s = groups a gs (walks a ss s)

  pub catches : Asked → p.Catches → Option Unmet → Option Unmet
  catches a p.NoCatch s = s
  catches a (p.AndCatch (p.Caught n x y) cs) s = catches a cs (walk a y s)

-- ---- members

abbrev pub in_field : Asked → (field : ℕ) → Option p.Expr → Option Unmet → Option Unmet
in_field a k None s = s
in_field a k (Some x) s = field_init a k (field_at a.world k) x (value a x s)

abbrev pub in_fields : Asked → List p.FieldVar → Option Unmet → Option Unmet
in_fields a [] s = s
in_fields a (x ∷ xs) s = in_fields a xs (in_field a x.field x.init s)

abbrev pub in_body : Asked → Option p.Stmt → Option Unmet → Option Unmet
in_body a None s = s
in_body a (Some y) s = walk a y s

-- the same in the body of a method, and in a class
abbrev pub in_method_of : Asked → (method : Option ℕ) → Asked
in_method_of a m = record { world = a.world; facts = a.facts; ties = a.ties; change = a.change; main = a.main; class = a.class; method = m }

abbrev pub in_class_of : Asked → (class : ℕ) → Asked
in_class_of a c = record { world = a.world; facts = a.facts; ties = a.ties; change = a.change; main = a.main; class = c; method = None }

abbrev pub in_method : Asked → p.Method → Option Unmet → Option Unmet
in_method a x s = in_body (in_method_of a (Some x.method)) x.body (declaration a x (method_at a.world x.method) s)

abbrev pub in_member : Asked → p.Member → Option Unmet → Option Unmet
in_member a (p.Fields n w xs) s = in_fields a xs s
in_member a (p.AMethod x) s = in_method a x s

abbrev pub in_members : Asked → List p.Member → Option Unmet → Option Unmet
in_members a [] s = s
in_members a (x ∷ xs) s = in_members a xs (in_member a x s)

abbrev pub in_classes : Asked → List p.Class → Option Unmet → Option Unmet
in_classes a [] s = s
in_classes a (x ∷ xs) s = in_classes a xs (in_members (in_class_of a x.number) x.members s)

abbrev pub in_files : Asked → List p.File → Option Unmet → Option Unmet
in_files a [] s = s
in_files a (x ∷ xs) s = in_files a xs (in_classes a x.classes s)

-- The first constraint that is not met in the first files, so many; `main` is the name main, where a file has it.
abbrev pub first_unmet : Facts → Ties → Changes → (main : Option Name) → (users : ℕ) → p.Program → Option Unmet
first_unmet f t c main n x = in_files (record { world = f.world; facts = f; ties = t; change = c; main = main; class = 0; method = None }) (take n x.files) None
