-- The numbers given are as many as the nodes.
use Rattle.std.proofs.Common.{◌≡◌, ℕ, ◌+◌, List, [], ◌∷◌, Option, None, Some, arith, refl}
use Rattle.java_tree.specs.Plain as t
use Rattle.java_tree.specs.Plain.{TypeExpr, TypeExprs, Expr, MaybeExpr, Exprs, Var, Param, Stmt, MaybeStmt, Stmts, Group, Groups, Catch, Catches}
use Rattle.tree_numbers.specs.Numbers as numbers
use Rattle.tree_numbers.specs.Sizes as size

mutual
  pub type_count : (x : TypeExpr) (k : ℕ) → (numbers.type x k).1 ≡ k + size.type x
  type_count (t.Written n h s xs d) k = omega (arith, types_count xs (k + 1))

  pub types_count : (xs : TypeExprs) (k : ℕ) → (numbers.types xs k).1 ≡ k + size.types xs
  types_count t.NoTypes k = omega arith
  types_count (t.AndType x xs) k = omega (arith, type_count x k, types_count xs (numbers.type x k).1)

mutual
  pub expr_count : (e : Expr) (k : ℕ) → (numbers.expr e k).1 ≡ k + size.expr e
  expr_count (t.Number n x d l) k = refl
  expr_count (t.Char n x) k = refl
  expr_count (t.Text n x) k = refl
  expr_count (t.Truth n x) k = refl
  expr_count (t.Null n) k = refl
  expr_count (t.This n) k = refl
  expr_count (t.Name n x) k = refl
  expr_count (t.Field n x f) k = omega (arith, expr_count x (k + 1))
  expr_count (t.SuperField n f) k = refl
  expr_count (t.Index n x y) k = omega (arith, expr_count x (k + 1), expr_count y (numbers.expr x (k + 1)).1)
  expr_count (t.Call n of f xs) k = omega (arith, maybe_count of (k + 1), exprs_count xs (numbers.maybe of (k + 1)).1)
  expr_count (t.SuperMethod n f xs) k = omega (arith, exprs_count xs (k + 1))
  expr_count (t.New n ty xs) k = omega (arith, type_count ty (k + 1), exprs_count xs (numbers.type ty (k + 1)).1)
  expr_count (t.NewArray n ty xs extra) k = omega (arith, type_count ty (k + 1), exprs_count xs (numbers.type ty (k + 1)).1)
  expr_count (t.NewFilled n ty x) k = omega (arith, type_count ty (k + 1), expr_count x (numbers.type ty (k + 1)).1)
  expr_count (t.Items n xs) k = omega (arith, exprs_count xs (k + 1))
  expr_count (t.Paren n x) k = omega (arith, expr_count x (k + 1))
  expr_count (t.Unary n op x) k = omega (arith, expr_count x (k + 1))
  expr_count (t.Step n up before x) k = omega (arith, expr_count x (k + 1))
  expr_count (t.Cast n ty close x) k = omega (arith, type_count ty (k + 1), expr_count x (numbers.type ty (k + 1)).1)
  expr_count (t.Binary n op x y) k = omega (arith, expr_count x (k + 1), expr_count y (numbers.expr x (k + 1)).1)
  expr_count (t.InstanceOf n x ty) k = omega (arith, expr_count x (k + 1), type_count ty (numbers.expr x (k + 1)).1)
  expr_count (t.Cond n x y z) k =
      let a = expr_count x (k + 1) in
      let b = expr_count y (numbers.expr x (k + 1)).1 in
      let c = expr_count z (numbers.expr y (numbers.expr x (k + 1)).1).1 in
      omega arith
  expr_count (t.Assign n op x y) k = omega (arith, expr_count x (k + 1), expr_count y (numbers.expr x (k + 1)).1)

  pub maybe_count : (x : MaybeExpr) (k : ℕ) → (numbers.maybe x k).1 ≡ k + size.maybe x
  maybe_count t.NoExpr k = omega arith
  maybe_count (t.AnExpr x) k = expr_count x k

  pub exprs_count : (xs : Exprs) (k : ℕ) → (numbers.exprs xs k).1 ≡ k + size.exprs xs
  exprs_count t.End k = omega arith
  exprs_count (t.Also x xs) k = omega (arith, expr_count x k, exprs_count xs (numbers.expr x k).1)

pub init_count : (x : Option Expr) (k : ℕ) → (numbers.init x k).1 ≡ k + size.init x
init_count None k = omega arith
init_count (Some x) k = expr_count x k

pub labels_count : (xs : List (Option Expr)) (k : ℕ) → (numbers.labels xs k).1 ≡ k + size.labels xs
labels_count [] k = omega arith
labels_count (x ∷ xs) k = omega (arith, init_count x k, labels_count xs (numbers.init x k).1)

pub var_count : (v : Var) (k : ℕ) → (numbers.var v k).1 ≡ k + size.var v
var_count v k = omega (arith, init_count v.init (k + 1))

pub vars_count : (vs : List Var) (k : ℕ) → (numbers.vars vs k).1 ≡ k + size.vars vs
vars_count [] k = omega arith
vars_count (v ∷ vs) k = omega (arith, var_count v k, vars_count vs (numbers.var v k).1)

pub param_count : (p : Param) (k : ℕ) → (numbers.param p k).1 ≡ k + size.param p
param_count p k = omega (arith, type_count p.ty (k + 1))

mutual
  pub stmt_count : (x : Stmt) (k : ℕ) → (numbers.stmt x k).1 ≡ k + size.stmt x
  stmt_count (t.Block n xs) k = omega (arith, stmts_count xs (k + 1))
  stmt_count (t.Local n f ty vs) k = omega (arith, type_count ty (k + 1), vars_count vs (numbers.type ty (k + 1)).1)
  stmt_count (t.Empty n) k = refl
  stmt_count (t.Value n x) k = omega (arith, expr_count x (k + 1))
  stmt_count (t.If n x a b) k =
      let i = expr_count x (k + 1) in
      let j = stmt_count a (numbers.expr x (k + 1)).1 in
      let m = maybe_stmt_count b (numbers.stmt a (numbers.expr x (k + 1)).1).1 in
      omega arith
  stmt_count (t.While n x a) k = omega (arith, expr_count x (k + 1), stmt_count a (numbers.expr x (k + 1)).1)
  stmt_count (t.Do n a x) k = omega (arith, stmt_count a (k + 1), expr_count x (numbers.stmt a (k + 1)).1)
  stmt_count (t.For n xs x ys a) k =
      let i = stmts_count xs (k + 1) in
      let j = init_count x (numbers.stmts xs (k + 1)).1 in
      let m = exprs_count ys (numbers.init x (numbers.stmts xs (k + 1)).1).1 in
      let o = stmt_count a (numbers.exprs ys (numbers.init x (numbers.stmts xs (k + 1)).1).1).1 in
      omega arith
  stmt_count (t.ForEach n f ty v x a) k =
      let i = type_count ty (k + 1) in
      let j = expr_count x (numbers.type ty (k + 1)).1 in
      let m = stmt_count a (numbers.expr x (numbers.type ty (k + 1)).1).1 in
      omega arith
  stmt_count (t.Switch n x gs) k = omega (arith, expr_count x (k + 1), groups_count gs (numbers.expr x (k + 1)).1)
  stmt_count (t.Break n) k = refl
  stmt_count (t.Continue n) k = refl
  stmt_count (t.Return n x) k = omega (arith, init_count x (k + 1))
  stmt_count (t.Throw n x) k = omega (arith, expr_count x (k + 1))
  stmt_count (t.Try n a cs b) k =
      let i = stmt_count a (k + 1) in
      let j = catches_count cs (numbers.stmt a (k + 1)).1 in
      let m = maybe_stmt_count b (numbers.catches cs (numbers.stmt a (k + 1)).1).1 in
      omega arith
  stmt_count (t.ThisCall n xs) k = omega (arith, exprs_count xs (k + 1))
  stmt_count (t.SuperCall n xs) k = omega (arith, exprs_count xs (k + 1))

  pub maybe_stmt_count : (x : MaybeStmt) (k : ℕ) → (numbers.maybe_stmt x k).1 ≡ k + size.maybe_stmt x
  maybe_stmt_count t.NoStmt k = omega arith
  maybe_stmt_count (t.AStmt x) k = stmt_count x k

  pub stmts_count : (xs : Stmts) (k : ℕ) → (numbers.stmts xs k).1 ≡ k + size.stmts xs
  stmts_count t.Last k = omega arith
  stmts_count (t.Then x xs) k = omega (arith, stmt_count x k, stmts_count xs (numbers.stmt x k).1)

  pub group_count : (g : Group) (k : ℕ) → (numbers.group g k).1 ≡ k + size.group g
  group_count (t.Labelled n ls xs) k = omega (arith, labels_count ls (k + 1), stmts_count xs (numbers.labels ls (k + 1)).1)

  pub groups_count : (gs : Groups) (k : ℕ) → (numbers.groups gs k).1 ≡ k + size.groups gs
  groups_count t.NoGroup k = omega arith
  groups_count (t.AndGroup g gs) k = omega (arith, group_count g k, groups_count gs (numbers.group g k).1)

  pub catch_count : (c : Catch) (k : ℕ) → (numbers.catch c k).1 ≡ k + size.catch c
  catch_count (t.Caught n p x) k = omega (arith, param_count p (k + 1), stmt_count x (numbers.param p (k + 1)).1)

  pub catches_count : (cs : Catches) (k : ℕ) → (numbers.catches cs k).1 ≡ k + size.catches cs
  catches_count t.NoCatch k = omega arith
  catches_count (t.AndCatch c cs) k = omega (arith, catch_count c k, catches_count cs (numbers.catch c k).1)
