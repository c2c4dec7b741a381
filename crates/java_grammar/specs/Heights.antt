-- How deep a tree goes below its own node, which has the depth 0. A depth counts all nodes: types, variables, groups and catches too.
use Rattle.std.specs.Prelude.{ℕ, ◌+◌, max, List, [], ◌∷◌, Option, Some, None}
use Rattle.java_tree.specs.Plain as t
use Rattle.java_tree.specs.Plain.{TypeExpr, TypeExprs, Expr, MaybeExpr, Exprs, Var, Param, Stmt, MaybeStmt, Stmts, Group, Groups, Catch, Catches}

-- `.._depth` is that of a tree, `below_..` that of what holds these trees as children

abbrev mutual
  pub type_depth : TypeExpr → ℕ
  type_depth (t.Written n h s args d) = below_types args

  pub below_types : TypeExprs → ℕ
  below_types t.NoTypes = 0
  below_types (t.AndType x xs) = max (type_depth x + 1) (below_types xs)

abbrev mutual
  pub expr_depth : Expr → ℕ
  expr_depth (t.Number n x d l) = 0
  expr_depth (t.Char n x) = 0
  expr_depth (t.Text n x) = 0
  expr_depth (t.Truth n x) = 0
  expr_depth (t.Null n) = 0
  expr_depth (t.This n) = 0
  expr_depth (t.Name n x) = 0
  expr_depth (t.Field n x f) = expr_depth x + 1
  expr_depth (t.SuperField n f) = 0
  expr_depth (t.Index n x y) = max (expr_depth x + 1) (expr_depth y + 1)
  expr_depth (t.Call n t.NoExpr f xs) = below_exprs xs
  expr_depth (t.Call n (t.AnExpr x) f xs) = max (expr_depth x + 1) (below_exprs xs)
  expr_depth (t.SuperMethod n f xs) = below_exprs xs
  expr_depth (t.New n ty xs) = max (type_depth ty + 1) (below_exprs xs)
  expr_depth (t.NewArray n ty xs k) = max (type_depth ty + 1) (below_exprs xs)
  expr_depth (t.NewFilled n ty x) = max (type_depth ty + 1) (expr_depth x + 1)
  expr_depth (t.Items n xs) = below_exprs xs
  expr_depth (t.Paren n x) = expr_depth x + 1
  expr_depth (t.Unary n op x) = expr_depth x + 1
  expr_depth (t.Step n up before x) = expr_depth x + 1
  expr_depth (t.Cast n ty c x) = max (type_depth ty + 1) (expr_depth x + 1)
  expr_depth (t.Binary n op a b) = max (expr_depth a + 1) (expr_depth b + 1)
  expr_depth (t.InstanceOf n x ty) = max (expr_depth x + 1) (type_depth ty + 1)
  expr_depth (t.Cond n a b c) = max (expr_depth a + 1) (max (expr_depth b + 1) (expr_depth c + 1))
  expr_depth (t.Assign n op a b) = max (expr_depth a + 1) (expr_depth b + 1)

  pub below_exprs : Exprs → ℕ
  below_exprs t.End = 0
  below_exprs (t.Also x xs) = max (expr_depth x + 1) (below_exprs xs)

abbrev pub below_init : Option Expr → ℕ
below_init None = 0
below_init (Some x) = expr_depth x + 1

abbrev pub below_vars : List Var → ℕ
below_vars [] = 0
below_vars (v ∷ vs) = max (below_init v.init + 1) (below_vars vs)

abbrev pub below_labels : List (Option Expr) → ℕ
below_labels [] = 0
below_labels (x ∷ xs) = max (below_init x) (below_labels xs)

-- a parameter has its type as its one child
abbrev pub param_depth : Param → ℕ
param_depth p = type_depth p.ty + 1

abbrev mutual
  pub stmt_depth : Stmt → ℕ
  stmt_depth (t.Block n xs) = below_stmts xs
  stmt_depth (t.Local n f ty vs) = max (type_depth ty + 1) (below_vars vs)
  stmt_depth (t.Empty n) = 0
  stmt_depth (t.Value n x) = expr_depth x + 1
  stmt_depth (t.If n x a b) = max (expr_depth x + 1) (max (stmt_depth a + 1) (below_maybe b))
  stmt_depth (t.While n x a) = max (expr_depth x + 1) (stmt_depth a + 1)
  stmt_depth (t.Do n a x) = max (stmt_depth a + 1) (expr_depth x + 1)
  stmt_depth (t.For n xs x ys a) = max (max (below_stmts xs) (below_init x)) (max (below_exprs ys) (stmt_depth a + 1))
  stmt_depth (t.ForEach n f ty v x a) = max (type_depth ty + 1) (max (expr_depth x + 1) (stmt_depth a + 1))
  stmt_depth (t.Switch n x gs) = max (expr_depth x + 1) (below_groups gs)
  stmt_depth (t.Break n) = 0
  stmt_depth (t.Continue n) = 0
  stmt_depth (t.Return n x) = below_init x
  stmt_depth (t.Throw n x) = expr_depth x + 1
  stmt_depth (t.Try n a cs b) = max (stmt_depth a + 1) (max (below_catches cs) (below_maybe b))
  stmt_depth (t.ThisCall n xs) = below_exprs xs
  stmt_depth (t.SuperCall n xs) = below_exprs xs

  pub below_maybe : MaybeStmt → ℕ
  below_maybe t.NoStmt = 0
  below_maybe (t.AStmt x) = stmt_depth x + 1

  pub below_stmts : Stmts → ℕ
  below_stmts t.Last = 0
  below_stmts (t.Then x xs) = max (stmt_depth x + 1) (below_stmts xs)

  pub group_depth : Group → ℕ
  group_depth (t.Labelled n ls xs) = max (below_labels ls) (below_stmts xs)

  pub below_groups : Groups → ℕ
  below_groups t.NoGroup = 0
  below_groups (t.AndGroup g gs) = max (group_depth g + 1) (below_groups gs)

  pub catch_depth : Catch → ℕ
  catch_depth (t.Caught n p x) = max (param_depth p + 1) (stmt_depth x + 1)

  pub below_catches : Catches → ℕ
  below_catches t.NoCatch = 0
  below_catches (t.AndCatch c cs) = max (catch_depth c + 1) (below_catches cs)
