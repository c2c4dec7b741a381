-- What the walk over the written types of a file answers: the first broken rule so far goes in, and the first one behind the subtree comes out. Contracts
-- of private functions speak of it, and no public one does.
use Rattle.std.specs.Prelude.{Bool, true, false, not, ◌&&◌, ◌||◌, List, [], ◌∷◌, Option, Some, None, nat_lt, nat_eq}
use Rattle.std.specs.List.{list_any}
use Rattle.java_tree.specs.declared.tree.Name.{Name}
use Rattle.java_tree.specs.declared.tree.Head.{Head}
use Rattle.java_tree.specs.declared.tree.Head.TheVariants as head
use Rattle.java_tree.specs.View as view
use Rattle.java_tree.specs.Plain as t
use Rattle.java_tree.specs.Plain.{TypeExpr, TypeExprs, Expr, MaybeExpr, Exprs, Var, Param, Stmt, MaybeStmt, Stmts, Group, Groups, Catch, Catches, Member, TypeDecl, SourceUnit}
use Rattle.rule_order.specs.declared.Breach.{Breach}
use Rattle.rule_order.specs.Noted.{noted}
use Rattle.decl_rules.specs.Parts.{node_of, head_of, dims_of}

-- ---- the walk

-- from the first one so far to the first one after it
abbrev pub Walk : Type 0 → Type 0
Walk A = A → Option Breach → Option Breach

abbrev pub is_qualified : Head → Bool
is_qualified (head.Path (x ∷ y ∷ names)) = true
is_qualified _ = false

abbrev pub has_args : TypeExpr → Bool
has_args (t.Written n h s t.NoTypes d) = false
has_args (t.Written n h s (t.AndType x xs) d) = true

-- the type is an array's element type, if this is so
abbrev pub element : Bool → Walk TypeExpr
element is x a = noted a 17 (node_of x) (is && has_args x)

-- the head is the simple name of a generic type, by the names that mean one, and the type parameters around
abbrev pub names_generic : (generic : Name → Bool) → (vars : List Name) → Head → Bool
names_generic generic vars (head.Path (n ∷ [])) = generic n && not (list_any (λ v. nat_eq v.0 n.0) vars)
names_generic generic vars _ = false

-- the test of S12 on an argument
abbrev pub is_nested : (generic : Name → Bool) → (vars : List Name) → TypeExpr → Bool
is_nested generic vars x = nat_lt 0 (dims_of x) || names_generic generic vars (head_of x)

abbrev pub nested : (test : TypeExpr → Bool) → Walk TypeExprs
nested test t.NoTypes a = a
nested test (t.AndType x xs) a = nested test xs (noted a 12 (node_of x) (test x))

abbrev mutual
  pub type : (test : TypeExpr → Bool) → Walk TypeExpr
  type test (t.Written n h s xs d) a = types test xs (nested test xs (element (nat_lt 0 d) (t.Written n h s xs d) (noted a 13 n (is_qualified h))))

  pub types : (test : TypeExpr → Bool) → Walk TypeExprs
  types test t.NoTypes a = a
  types test (t.AndType x xs) a = types test xs (type test x a)

abbrev mutual
  pub expr : (test : TypeExpr → Bool) → Walk Expr
  expr test (t.Number n x d l) a = a
  expr test (t.Char n x) a = a
  expr test (t.Text n x) a = a
  expr test (t.Truth n x) a = a
  expr test (t.Null n) a = a
  expr test (t.This n) a = a
  expr test (t.Name n x) a = a
  expr test (t.Field n x f) a = expr test x a
  expr test (t.SuperField n f) a = a
  expr test (t.Index n x y) a = expr test y (expr test x a)
  expr test (t.Call n of f xs) a = exprs test xs (maybe test of a)
  expr test (t.SuperMethod n f xs) a = exprs test xs a
  expr test (t.New n ty xs) a = exprs test xs (type test ty a)
  expr test (t.NewArray n ty xs extra) a = exprs test xs (type test ty (element true ty a))
  expr test (t.NewFilled n ty x) a = expr test x (type test ty a)
  expr test (t.Items n xs) a = exprs test xs a
  expr test (t.Paren n x) a = expr test x a
  expr test (t.Unary n op x) a = expr test x a
  expr test (t.Step n up before x) a = expr test x a
  expr test (t.Cast n ty close x) a = expr test x (type test ty a)
  expr test (t.Binary n op x y) a = expr test y (expr test x a)
  expr test (t.InstanceOf n x ty) a = type test ty (expr test x a)
  expr test (t.Cond n x y z) a = expr test z (expr test y (expr test x a))
  expr test (t.Assign n op x y) a = expr test y (expr test x a)

  pub maybe : (test : TypeExpr → Bool) → Walk MaybeExpr
  maybe test t.NoExpr a = a
  maybe test (t.AnExpr x) a = expr test x a

  pub exprs : (test : TypeExpr → Bool) → Walk Exprs
  exprs test t.End a = a
  exprs test (t.Also x xs) a = exprs test xs (expr test x a)

abbrev pub init : (test : TypeExpr → Bool) → Walk (Option Expr)
init test None a = a
init test (Some x) a = expr test x a

abbrev pub labels : (test : TypeExpr → Bool) → Walk (List (Option Expr))
labels test [] a = a
labels test (x ∷ xs) a = labels test xs (init test x a)

abbrev pub vars : (test : TypeExpr → Bool) → Walk (List Var)
vars test [] a = a
vars test (v ∷ vs) a = vars test vs (init test v.init a)

abbrev pub has_brackets : List Var → Bool
has_brackets [] = false
has_brackets (v ∷ vs) = nat_lt 0 v.dims || has_brackets vs

-- a type test and the variables that are declared test with it
abbrev pub declared : (test : TypeExpr → Bool) → TypeExpr → Walk (List Var)
declared test ty vs a = vars test vs (type test ty (element (has_brackets vs) ty a))

abbrev pub param : (test : TypeExpr → Bool) → Walk Param
param test p a = type test p.ty (element (nat_lt 0 p.dims) p.ty a)

abbrev pub params : (test : TypeExpr → Bool) → Walk (List Param)
params test [] a = a
params test (p ∷ ps) a = params test ps (param test p a)

abbrev mutual
  pub stmt : (test : TypeExpr → Bool) → Walk Stmt
  stmt test (t.Block n xs) a = stmts test xs a
  stmt test (t.Local n final_ ty vs) a = declared test ty vs a
  stmt test (t.Empty n) a = a
  stmt test (t.Value n x) a = expr test x a
  stmt test (t.If n x y z) a = maybe_stmt test z (stmt test y (expr test x a))
  stmt test (t.While n x y) a = stmt test y (expr test x a)
  stmt test (t.Do n y x) a = expr test x (stmt test y a)
  stmt test (t.For n xs x ys y) a = stmt test y (exprs test ys (init test x (stmts test xs a)))
  stmt test (t.ForEach n final_ ty v x y) a = stmt test y (expr test x (type test ty a))
  stmt test (t.Switch n x gs) a = groups test gs (expr test x a)
  stmt test (t.Break n) a = a
  stmt test (t.Continue n) a = a
  stmt test (t.Return n x) a = init test x a
  stmt test (t.Throw n x) a = expr test x a
  stmt test (t.Try n y cs z) a = maybe_stmt test z (catches test cs (stmt test y a))
  stmt test (t.ThisCall n xs) a = exprs test xs a
  stmt test (t.SuperCall n xs) a = exprs test xs a

  pub maybe_stmt : (test : TypeExpr → Bool) → Walk MaybeStmt
  maybe_stmt test t.NoStmt a = a
  maybe_stmt test (t.AStmt x) a = stmt test x a

  pub stmts : (test : TypeExpr → Bool) → Walk Stmts
  stmts test t.Last a = a
  stmts test (t.Then x xs) a = stmts test xs (stmt test x a)

  pub group : (test : TypeExpr → Bool) → Walk Group
  group test (t.Labelled n ls xs) a = stmts test xs (labels test ls a)

  pub groups : (test : TypeExpr → Bool) → Walk Groups
  groups test t.NoGroup a = a
  groups test (t.AndGroup g gs) a = groups test gs (group test g a)

  pub catch : (test : TypeExpr → Bool) → Walk Catch
  catch test (t.Caught n p x) a = stmt test x (param test p a)

  pub catches : (test : TypeExpr → Bool) → Walk Catches
  catches test t.NoCatch a = a
  catches test (t.AndCatch c cs) a = catches test cs (catch test c a)

abbrev pub maybe_type : (test : TypeExpr → Bool) → Walk (Option TypeExpr)
maybe_type test None a = a
maybe_type test (Some x) a = type test x a

abbrev pub body : (test : TypeExpr → Bool) → Walk (Option Stmt)
body test None a = a
body test (Some x) a = stmt test x a

abbrev pub member : (test : TypeExpr → Bool) → Walk Member
member test (t.AField f) a = declared test f.ty f.vars a
member test (t.AMethod m) a = body test m.body (types test (view.types m.throws) (params test m.params (maybe_type test m.result a)))

abbrev pub members : (test : TypeExpr → Bool) → Walk (List Member)
members test [] a = a
members test (m ∷ ms) a = members test ms (member test m a)

abbrev pub declaring : (test : TypeExpr → Bool) → Walk TypeDecl
declaring test d a = members test d.members (types test (view.types d.implements) (types test (view.types d.extends) a))

abbrev pub decl : (generic : Name → Bool) → Walk TypeDecl
decl generic d a = declaring (is_nested generic d.params) d a

abbrev pub decls : (generic : Name → Bool) → Walk (List TypeDecl)
decls generic [] a = a
decls generic (d ∷ ds) a = decls generic ds (decl generic d a)
