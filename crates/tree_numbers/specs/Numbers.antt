-- Node numbers in preorder: a node has the number k, and its children, in the order of the text, the numbers behind it. Each function gives the
-- numbered tree and the next number.
use Rattle.std.specs.Prelude.{ℕ, ◌+◌, List, [], ◌∷◌, Option, Some, None}
use Rattle.java_tree.specs.declared.tree.Node.{Node}
use Rattle.java_tree.specs.Plain as t
use Rattle.java_tree.specs.Plain.{TypeExpr, TypeExprs, Expr, MaybeExpr, Exprs, Var, Param, Stmt, MaybeStmt, Stmts, Group, Groups, Catch, Catches}

-- what takes numbers: from the next number on
abbrev pub Numbering : Type 0 → Type 0
Numbering A = A → ℕ → A × ℕ

abbrev pub at : ℕ → Node → Node
at k n = record { id = k; span = n.span }

abbrev mutual
  pub type : Numbering TypeExpr
  type (t.Written n h s xs d) k = (t.Written (at k n) h s (types xs (k + 1)).0 d, (types xs (k + 1)).1)

  pub types : Numbering TypeExprs
  types t.NoTypes k = (t.NoTypes, k)
  types (t.AndType x xs) k = (t.AndType (type x k).0 (types xs (type x k).1).0, (types xs (type x k).1).1)

abbrev mutual
  pub expr : Numbering Expr
  expr (t.Number n x d l) k = (t.Number (at k n) x d l, k + 1)
  expr (t.Char n x) k = (t.Char (at k n) x, k + 1)
  expr (t.Text n x) k = (t.Text (at k n) x, k + 1)
  expr (t.Truth n x) k = (t.Truth (at k n) x, k + 1)
  expr (t.Null n) k = (t.Null (at k n), k + 1)
  expr (t.This n) k = (t.This (at k n), k + 1)
  expr (t.Name n x) k = (t.Name (at k n) x, k + 1)
  expr (t.Field n x f) k = (t.Field (at k n) (expr x (k + 1)).0 f, (expr x (k + 1)).1)
  expr (t.SuperField n f) k = (t.SuperField (at k n) f, k + 1)
  expr (t.Index n x y) k = (t.Index (at k n) (expr x (k + 1)).0 (expr y (expr x (k + 1)).1).0, (expr y (expr x (k + 1)).1).1)
  expr (t.Call n of f xs) k = (t.Call (at k n) (maybe of (k + 1)).0 f (exprs xs (maybe of (k + 1)).1).0, (exprs xs (maybe of (k + 1)).1).1)
  expr (t.SuperMethod n f xs) k = (t.SuperMethod (at k n) f (exprs xs (k + 1)).0, (exprs xs (k + 1)).1)
  expr (t.New n ty xs) k = (t.New (at k n) (type ty (k + 1)).0 (exprs xs (type ty (k + 1)).1).0, (exprs xs (type ty (k + 1)).1).1)
  expr (t.NewArray n ty xs extra) k = (t.NewArray (at k n) (type ty (k + 1)).0 (exprs xs (type ty (k + 1)).1).0 extra, (exprs xs (type ty (k + 1)).1).1)
  expr (t.NewFilled n ty x) k = (t.NewFilled (at k n) (type ty (k + 1)).0 (expr x (type ty (k + 1)).1).0, (expr x (type ty (k + 1)).1).1)
  expr (t.Items n xs) k = (t.Items (at k n) (exprs xs (k + 1)).0, (exprs xs (k + 1)).1)
  expr (t.Paren n x) k = (t.Paren (at k n) (expr x (k + 1)).0, (expr x (k + 1)).1)
  expr (t.Unary n op x) k = (t.Unary (at k n) op (expr x (k + 1)).0, (expr x (k + 1)).1)
  expr (t.Step n up before x) k = (t.Step (at k n) up before (expr x (k + 1)).0, (expr x (k + 1)).1)
  expr (t.Cast n ty close x) k = (t.Cast (at k n) (type ty (k + 1)).0 close (expr x (type ty (k + 1)).1).0, (expr x (type ty (k + 1)).1).1)
  expr (t.Binary n op x y) k = (t.Binary (at k n) op (expr x (k + 1)).0 (expr y (expr x (k + 1)).1).0, (expr y (expr x (k + 1)).1).1)
  expr (t.InstanceOf n x ty) k = (t.InstanceOf (at k n) (expr x (k + 1)).0 (type ty (expr x (k + 1)).1).0, (type ty (expr x (k + 1)).1).1)
  expr (t.Cond n x y z) k = (t.Cond (at k n) (expr x (k + 1)).0 (expr y (expr x (k + 1)).1).0 (expr z (expr y (expr x (k + 1)).1).1).0, (expr z (expr y (expr x (k + 1)).1).1).1)
  expr (t.Assign n op x y) k = (t.Assign (at k n) op (expr x (k + 1)).0 (expr y (expr x (k + 1)).1).0, (expr y (expr x (k + 1)).1).1)

  pub maybe : Numbering MaybeExpr
  maybe t.NoExpr k = (t.NoExpr, k)
  maybe (t.AnExpr x) k = (t.AnExpr (expr x k).0, (expr x k).1)

  pub exprs : Numbering Exprs
  exprs t.End k = (t.End, k)
  exprs (t.Also x xs) k = (t.Also (expr x k).0 (exprs xs (expr x k).1).0, (exprs xs (expr x k).1).1)

abbrev pub init : Numbering (Option Expr)
init None k = (None, k)
init (Some x) k = (Some (expr x k).0, (expr x k).1)

abbrev pub labels : Numbering (List (Option Expr))
labels [] k = ([], k)
labels (x ∷ xs) k = ((init x k).0 ∷ (labels xs (init x k).1).0, (labels xs (init x k).1).1)

abbrev pub var : Numbering Var
var v k = (record { node = at k v.node; name = v.name; dims = v.dims; init = (init v.init (k + 1)).0 }, (init v.init (k + 1)).1)

abbrev pub vars : Numbering (List Var)
vars [] k = ([], k)
vars (v ∷ vs) k = ((var v k).0 ∷ (vars vs (var v k).1).0, (vars vs (var v k).1).1)

abbrev pub param : Numbering Param
param p k = (record { node = at k p.node; is_final = p.is_final; ty = (type p.ty (k + 1)).0; name = p.name; dims = p.dims }, (type p.ty (k + 1)).1)

abbrev mutual
  pub stmt : Numbering Stmt
  stmt (t.Block n xs) k = (t.Block (at k n) (stmts xs (k + 1)).0, (stmts xs (k + 1)).1)
  stmt (t.Local n f ty vs) k = (t.Local (at k n) f (type ty (k + 1)).0 (vars vs (type ty (k + 1)).1).0, (vars vs (type ty (k + 1)).1).1)
  stmt (t.Empty n) k = (t.Empty (at k n), k + 1)
  stmt (t.Value n x) k = (t.Value (at k n) (expr x (k + 1)).0, (expr x (k + 1)).1)
  stmt (t.If n x a b) k = (t.If (at k n) (expr x (k + 1)).0 (stmt a (expr x (k + 1)).1).0 (maybe_stmt b (stmt a (expr x (k + 1)).1).1).0, (maybe_stmt b (stmt a (expr x (k + 1)).1).1).1)
  stmt (t.While n x a) k = (t.While (at k n) (expr x (k + 1)).0 (stmt a (expr x (k + 1)).1).0, (stmt a (expr x (k + 1)).1).1)
  stmt (t.Do n a x) k = (t.Do (at k n) (stmt a (k + 1)).0 (expr x (stmt a (k + 1)).1).0, (expr x (stmt a (k + 1)).1).1)
  stmt (t.For n xs x ys a) k = (t.For (at k n) (stmts xs (k + 1)).0 (init x (stmts xs (k + 1)).1).0 (exprs ys (init x (stmts xs (k + 1)).1).1).0 (stmt a (exprs ys (init x (stmts xs (k + 1)).1).1).1).0, (stmt a (exprs ys (init x (stmts xs (k + 1)).1).1).1).1)
  stmt (t.ForEach n f ty v x a) k = (t.ForEach (at k n) f (type ty (k + 1)).0 v (expr x (type ty (k + 1)).1).0 (stmt a (expr x (type ty (k + 1)).1).1).0, (stmt a (expr x (type ty (k + 1)).1).1).1)
  stmt (t.Switch n x gs) k = (t.Switch (at k n) (expr x (k + 1)).0 (groups gs (expr x (k + 1)).1).0, (groups gs (expr x (k + 1)).1).1)
  stmt (t.Break n) k = (t.Break (at k n), k + 1)
  stmt (t.Continue n) k = (t.Continue (at k n), k + 1)
  stmt (t.Return n x) k = (t.Return (at k n) (init x (k + 1)).0, (init x (k + 1)).1)
  stmt (t.Throw n x) k = (t.Throw (at k n) (expr x (k + 1)).0, (expr x (k + 1)).1)
  stmt (t.Try n a cs b) k = (t.Try (at k n) (stmt a (k + 1)).0 (catches cs (stmt a (k + 1)).1).0 (maybe_stmt b (catches cs (stmt a (k + 1)).1).1).0, (maybe_stmt b (catches cs (stmt a (k + 1)).1).1).1)
  stmt (t.ThisCall n xs) k = (t.ThisCall (at k n) (exprs xs (k + 1)).0, (exprs xs (k + 1)).1)
  stmt (t.SuperCall n xs) k = (t.SuperCall (at k n) (exprs xs (k + 1)).0, (exprs xs (k + 1)).1)

  pub maybe_stmt : Numbering MaybeStmt
  maybe_stmt t.NoStmt k = (t.NoStmt, k)
  maybe_stmt (t.AStmt x) k = (t.AStmt (stmt x k).0, (stmt x k).1)

  pub stmts : Numbering Stmts
  stmts t.Last k = (t.Last, k)
  stmts (t.Then x xs) k = (t.Then (stmt x k).0 (stmts xs (stmt x k).1).0, (stmts xs (stmt x k).1).1)

  pub group : Numbering Group
  group (t.Labelled n ls xs) k = (t.Labelled (at k n) (labels ls (k + 1)).0 (stmts xs (labels ls (k + 1)).1).0, (stmts xs (labels ls (k + 1)).1).1)

  pub groups : Numbering Groups
  groups t.NoGroup k = (t.NoGroup, k)
  groups (t.AndGroup g gs) k = (t.AndGroup (group g k).0 (groups gs (group g k).1).0, (groups gs (group g k).1).1)

  pub catch : Numbering Catch
  catch (t.Caught n p x) k = (t.Caught (at k n) (param p (k + 1)).0 (stmt x (param p (k + 1)).1).0, (stmt x (param p (k + 1)).1).1)

  pub catches : Numbering Catches
  catches t.NoCatch k = (t.NoCatch, k)
  catches (t.AndCatch c cs) k = (t.AndCatch (catch c k).0 (catches cs (catch c k).1).0, (catches cs (catch c k).1).1)
