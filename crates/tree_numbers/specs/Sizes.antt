-- How many nodes a tree has, its own among them.
use Rattle.std.specs.Prelude.{ℕ, ◌+◌, List, [], ◌∷◌, Option, None, Some}
use Rattle.java_tree.specs.Plain as t
use Rattle.java_tree.specs.Plain.{TypeExpr, TypeExprs, Expr, MaybeExpr, Exprs, Var, Param, Stmt, MaybeStmt, Stmts, Group, Groups, Catch, Catches}

abbrev mutual
  pub type : TypeExpr → ℕ
  type (t.Written n h s xs d) = types xs + 1

  pub types : TypeExprs → ℕ
  types t.NoTypes = 0
  types (t.AndType x xs) = type x + types xs

abbrev mutual
  pub expr : Expr → ℕ
  expr (t.Number n x d l) = 1
  expr (t.Char n x) = 1
  expr (t.Text n x) = 1
  expr (t.Truth n x) = 1
  expr (t.Null n) = 1
  expr (t.This n) = 1
  expr (t.Name n x) = 1
  expr (t.Field n x f) = expr x + 1
  expr (t.SuperField n f) = 1
  expr (t.Index n x y) = expr x + expr y + 1
  expr (t.Call n of f xs) = maybe of + exprs xs + 1
  expr (t.SuperMethod n f xs) = exprs xs + 1
  expr (t.New n ty xs) = type ty + exprs xs + 1
  expr (t.NewArray n ty xs extra) = type ty + exprs xs + 1
  expr (t.NewFilled n ty x) = type ty + expr x + 1
  expr (t.Items n xs) = exprs xs + 1
  expr (t.Paren n x) = expr x + 1
  expr (t.Unary n op x) = expr x + 1
  expr (t.Step n up before x) = expr x + 1
  expr (t.Cast n ty close x) = type ty + expr x + 1
  expr (t.Binary n op x y) = expr x + expr y + 1
  expr (t.InstanceOf n x ty) = expr x + type ty + 1
  expr (t.Cond n x y z) = expr x + expr y + expr z + 1
  expr (t.Assign n op x y) = expr x + expr y + 1

  pub maybe : MaybeExpr → ℕ
  maybe t.NoExpr = 0
  maybe (t.AnExpr x) = expr x

  pub exprs : Exprs → ℕ
  exprs t.End = 0
  exprs (t.Also x xs) = expr x + exprs xs

abbrev pub init : Option Expr → ℕ
init None = 0
init (Some x) = expr x

abbrev pub labels : List (Option Expr) → ℕ
labels [] = 0
labels (x ∷ xs) = init x + labels xs

abbrev pub var : Var → ℕ
var v = init v.init + 1

abbrev pub vars : List Var → ℕ
vars [] = 0
vars (v ∷ vs) = var v + vars vs

abbrev pub param : Param → ℕ
param p = type p.ty + 1

abbrev mutual
  pub stmt : Stmt → ℕ
  stmt (t.Block n xs) = stmts xs + 1
  stmt (t.Local n f ty vs) = type ty + vars vs + 1
  stmt (t.Empty n) = 1
  stmt (t.Value n x) = expr x + 1
  stmt (t.If n x a b) = expr x + stmt a + maybe_stmt b + 1
  stmt (t.While n x a) = expr x + stmt a + 1
  stmt (t.Do n a x) = stmt a + expr x + 1
  stmt (t.For n xs x ys a) = stmts xs + init x + exprs ys + stmt a + 1
  stmt (t.ForEach n f ty v x a) = type ty + expr x + stmt a + 1
  stmt (t.Switch n x gs) = expr x + groups gs + 1
  stmt (t.Break n) = 1
  stmt (t.Continue n) = 1
  stmt (t.Return n x) = init x + 1
  stmt (t.Throw n x) = expr x + 1
  stmt (t.Try n a cs b) = stmt a + catches cs + maybe_stmt b + 1
  stmt (t.ThisCall n xs) = exprs xs + 1
  stmt (t.SuperCall n xs) = exprs xs + 1

  pub maybe_stmt : MaybeStmt → ℕ
  maybe_stmt t.NoStmt = 0
  maybe_stmt (t.AStmt x) = stmt x

  pub stmts : Stmts → ℕ
  stmts t.Last = 0
  stmts (t.Then x xs) = stmt x + stmts xs

  pub group : Group → ℕ
  group (t.Labelled n ls xs) = labels ls + stmts xs + 1

  pub groups : Groups → ℕ
  groups t.NoGroup = 0
  groups (t.AndGroup g gs) = group g + groups gs

  pub catch : Catch → ℕ
  catch (t.Caught n p x) = param p + stmt x + 1

  pub catches : Catches → ℕ
  catches t.NoCatch = 0
  catches (t.AndCatch c cs) = catch c + catches cs
