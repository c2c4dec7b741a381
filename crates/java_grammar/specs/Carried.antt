-- Trees whose places are carried along, and tokens that agree but for their places.
use Rattle.std.specs.Prelude.{◌≡◌, ℕ, ◌+◌, ◌≤◌, ◌<◌, List, [], ◌∷◌, Option, Some, None}
use Rattle.java_tree.specs.declared.tree.Node.{Node}
use Rattle.java_tree.specs.declared.tree.Span.{Span}
use Rattle.java_tree.specs.Plain as t
use Rattle.java_tree.specs.Plain.{TypeExpr, TypeExprs, Expr, MaybeExpr, Exprs, Var, Param, Stmt, MaybeStmt, Stmts, Group, Groups, Catch, Catches}
use Rattle.java_grammar.specs.declared.token.Tok.{Tok}
use Rattle.java_grammar.specs.Reads.{sort_at, name_at, from_at, to_at}
use Rattle.java_grammar.specs.Expressions.{word_at}

-- A byte at which something begins or ends is carried by a function.

abbrev pub span : (ℕ → ℕ) → Span → Span
span g s = record { from = g s.from; to = g s.to }

abbrev pub node : (ℕ → ℕ) → Node → Node
node g n = record { id = n.id; span = span g n.span }

abbrev mutual
  pub type : (ℕ → ℕ) → TypeExpr → TypeExpr
  type g (t.Written n h s xs d) = t.Written (node g n) h (span g s) (types g xs) d

  pub types : (ℕ → ℕ) → TypeExprs → TypeExprs
  types g t.NoTypes = t.NoTypes
  types g (t.AndType x xs) = t.AndType (type g x) (types g xs)

abbrev mutual
  pub expr : (ℕ → ℕ) → Expr → Expr
  expr g (t.Number n x d l) = t.Number (node g n) x d l
  expr g (t.Char n x) = t.Char (node g n) x
  expr g (t.Text n x) = t.Text (node g n) x
  expr g (t.Truth n x) = t.Truth (node g n) x
  expr g (t.Null n) = t.Null (node g n)
  expr g (t.This n) = t.This (node g n)
  expr g (t.Name n x) = t.Name (node g n) x
  expr g (t.Field n x f) = t.Field (node g n) (expr g x) f
  expr g (t.SuperField n f) = t.SuperField (node g n) f
  expr g (t.Index n x y) = t.Index (node g n) (expr g x) (expr g y)
  expr g (t.Call n t.NoExpr f xs) = t.Call (node g n) t.NoExpr f (exprs g xs)
  expr g (t.Call n (t.AnExpr x) f xs) = t.Call (node g n) (t.AnExpr (expr g x)) f (exprs g xs)
  expr g (t.SuperMethod n f xs) = t.SuperMethod (node g n) f (exprs g xs)
  expr g (t.New n ty xs) = t.New (node g n) (type g ty) (exprs g xs)
  expr g (t.NewArray n ty xs extra) = t.NewArray (node g n) (type g ty) (exprs g xs) extra
  expr g (t.NewFilled n ty x) = t.NewFilled (node g n) (type g ty) (expr g x)
  expr g (t.Items n xs) = t.Items (node g n) (exprs g xs)
  expr g (t.Paren n x) = t.Paren (node g n) (expr g x)
  expr g (t.Unary n op x) = t.Unary (node g n) op (expr g x)
  expr g (t.Step n up before x) = t.Step (node g n) up before (expr g x)
  expr g (t.Cast n ty close x) = t.Cast (node g n) (type g ty) (g close) (expr g x)
  expr g (t.Binary n op x y) = t.Binary (node g n) op (expr g x) (expr g y)
  expr g (t.InstanceOf n x ty) = t.InstanceOf (node g n) (expr g x) (type g ty)
  expr g (t.Cond n x y z) = t.Cond (node g n) (expr g x) (expr g y) (expr g z)
  expr g (t.Assign n op x y) = t.Assign (node g n) op (expr g x) (expr g y)

  pub exprs : (ℕ → ℕ) → Exprs → Exprs
  exprs g t.End = t.End
  exprs g (t.Also x xs) = t.Also (expr g x) (exprs g xs)

abbrev pub init : (ℕ → ℕ) → Option Expr → Option Expr
init g None = None
init g (Some x) = Some (expr g x)

abbrev pub labels : (ℕ → ℕ) → List (Option Expr) → List (Option Expr)
labels g [] = []
labels g (x ∷ xs) = init g x ∷ labels g xs

abbrev pub var : (ℕ → ℕ) → Var → Var
var g v = record { node = node g v.node; name = v.name; dims = v.dims; init = init g v.init }

abbrev pub vars : (ℕ → ℕ) → List Var → List Var
vars g [] = []
vars g (v ∷ vs) = var g v ∷ vars g vs

abbrev pub param : (ℕ → ℕ) → Param → Param
param g p = record { node = node g p.node; is_final = p.is_final; ty = type g p.ty; name = p.name; dims = p.dims }

abbrev mutual
  pub stmt : (ℕ → ℕ) → Stmt → Stmt
  stmt g (t.Block n xs) = t.Block (node g n) (stmts g xs)
  stmt g (t.Local n f ty vs) = t.Local (node g n) f (type g ty) (vars g vs)
  stmt g (t.Empty n) = t.Empty (node g n)
  stmt g (t.Value n x) = t.Value (node g n) (expr g x)
  stmt g (t.If n x a b) = t.If (node g n) (expr g x) (stmt g a) (maybe_stmt g b)
  stmt g (t.While n x a) = t.While (node g n) (expr g x) (stmt g a)
  stmt g (t.Do n a x) = t.Do (node g n) (stmt g a) (expr g x)
  stmt g (t.For n xs x ys a) = t.For (node g n) (stmts g xs) (init g x) (exprs g ys) (stmt g a)
  stmt g (t.ForEach n f ty v x a) = t.ForEach (node g n) f (type g ty) v (expr g x) (stmt g a)
  stmt g (t.Switch n x gs) = t.Switch (node g n) (expr g x) (groups g gs)
  stmt g (t.Break n) = t.Break (node g n)
  stmt g (t.Continue n) = t.Continue (node g n)
  stmt g (t.Return n x) = t.Return (node g n) (init g x)
  stmt g (t.Throw n x) = t.Throw (node g n) (expr g x)
  stmt g (t.Try n a cs b) = t.Try (node g n) (stmt g a) (catches g cs) (maybe_stmt g b)
  stmt g (t.ThisCall n xs) = t.ThisCall (node g n) (exprs g xs)
  stmt g (t.SuperCall n xs) = t.SuperCall (node g n) (exprs g xs)

  pub maybe_stmt : (ℕ → ℕ) → MaybeStmt → MaybeStmt
  maybe_stmt g t.NoStmt = t.NoStmt
  maybe_stmt g (t.AStmt x) = t.AStmt (stmt g x)

  pub stmts : (ℕ → ℕ) → Stmts → Stmts
  stmts g t.Last = t.Last
  stmts g (t.Then x xs) = t.Then (stmt g x) (stmts g xs)

  pub group : (ℕ → ℕ) → Group → Group
  group g (t.Labelled n ls xs) = t.Labelled (node g n) (labels g ls) (stmts g xs)

  pub groups : (ℕ → ℕ) → Groups → Groups
  groups g t.NoGroup = t.NoGroup
  groups g (t.AndGroup x xs) = t.AndGroup (group g x) (groups g xs)

  pub catch : (ℕ → ℕ) → Catch → Catch
  catch g (t.Caught n p x) = t.Caught (node g n) (param g p) (stmt g x)

  pub catches : (ℕ → ℕ) → Catches → Catches
  catches g t.NoCatch = t.NoCatch
  catches g (t.AndCatch c cs) = t.AndCatch (catch g c) (catches g cs)

-- The tokens from i to before j of one text stand from `at` on in another, with their places carried. (The token p is there the token q.)
pub record Agrees (g : ℕ → ℕ) (text : List ℕ) (ts : List Tok) (other : List ℕ) (us : List Tok) (i j at : ℕ) : Type 0 where
  pub sort : (p q : ℕ) → p + at ≡ q + i → i ≤ p → p < j → sort_at us q ≡ sort_at ts p
  pub name : (p q : ℕ) → p + at ≡ q + i → i ≤ p → p < j → name_at us q ≡ name_at ts p
  pub from : (p q : ℕ) → p + at ≡ q + i → i ≤ p → p < j → from_at us q ≡ g (from_at ts p)
  pub to : (p q : ℕ) → p + at ≡ q + i → i ≤ p → p < j → to_at us q ≡ g (to_at ts p)
  pub bytes : (p q : ℕ) → p + at ≡ q + i → i ≤ p → p < j → word_at other us q ≡ word_at text ts p
