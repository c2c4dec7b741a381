-- The first byte of the node that has a number, in a tree: of its own node, or else in the first of the trees in it that has such a node, in the order of
-- the text. So where several nodes had the number, it would be the first in preorder.
use Rattle.std.specs.Prelude.{ℕ, ◌==◌, if◌then◌else◌, List, [], ◌∷◌, Option, Some, None}
use Rattle.java_tree.specs.declared.tree.Node.{Node}
use Rattle.java_tree.specs.declared.tree.Import as declared
use Rattle.java_tree.specs.Plain as t
use Rattle.java_tree.specs.Plain.{TypeExpr, TypeExprs, Expr, MaybeExpr, Exprs, Var, Param, Stmt, MaybeStmt, Stmts, Group, Groups, Catch, Catches, Member, TypeDecl, SourceUnit}
use Rattle.java_tree.specs.View as view

abbrev pub Search : Type 0 → Type 0
Search A = (number : ℕ) → A → Option ℕ

-- of the node itself, or what is found behind it
abbrev pub own : (number : ℕ) → Node → Option ℕ → Option ℕ
own k n later = if n.id == k then Some n.span.from else later

-- the first of two
abbrev pub or : Option ℕ → Option ℕ → Option ℕ
or (Some at) later = Some at
or None later = later

abbrev mutual
  pub type : Search TypeExpr
  type k (t.Written n h s xs d) = own k n (types k xs)

  pub types : Search TypeExprs
  types k t.NoTypes = None
  types k (t.AndType x xs) = or (type k x) (types k xs)

abbrev mutual
  pub expr : Search Expr
  expr k (t.Number n x d l) = own k n None
  expr k (t.Char n x) = own k n None
  expr k (t.Text n x) = own k n None
  expr k (t.Truth n x) = own k n None
  expr k (t.Null n) = own k n None
  expr k (t.This n) = own k n None
  expr k (t.Name n x) = own k n None
  expr k (t.Field n x f) = own k n (expr k x)
  expr k (t.SuperField n f) = own k n None
  expr k (t.Index n x y) = own k n (or (expr k x) (expr k y))
  expr k (t.Call n of f xs) = own k n (or (maybe k of) (exprs k xs))
  expr k (t.SuperMethod n f xs) = own k n (exprs k xs)
  expr k (t.New n ty xs) = own k n (or (type k ty) (exprs k xs))
  expr k (t.NewArray n ty xs extra) = own k n (or (type k ty) (exprs k xs))
  expr k (t.NewFilled n ty x) = own k n (or (type k ty) (expr k x))
  expr k (t.Items n xs) = own k n (exprs k xs)
  expr k (t.Paren n x) = own k n (expr k x)
  expr k (t.Unary n op x) = own k n (expr k x)
  expr k (t.Step n up before x) = own k n (expr k x)
  expr k (t.Cast n ty close x) = own k n (or (type k ty) (expr k x))
  expr k (t.Binary n op x y) = own k n (or (expr k x) (expr k y))
  expr k (t.InstanceOf n x ty) = own k n (or (expr k x) (type k ty))
  expr k (t.Cond n x y z) = own k n (or (expr k x) (or (expr k y) (expr k z)))
  expr k (t.Assign n op x y) = own k n (or (expr k x) (expr k y))

  pub maybe : Search MaybeExpr
  maybe k t.NoExpr = None
  maybe k (t.AnExpr x) = expr k x

  pub exprs : Search Exprs
  exprs k t.End = None
  exprs k (t.Also x xs) = or (expr k x) (exprs k xs)

abbrev pub init : Search (Option Expr)
init k None = None
init k (Some x) = expr k x

abbrev pub labels : Search (List (Option Expr))
labels k [] = None
labels k (x ∷ xs) = or (init k x) (labels k xs)

abbrev pub var : Search Var
var k v = own k v.node (init k v.init)

abbrev pub vars : Search (List Var)
vars k [] = None
vars k (v ∷ vs) = or (var k v) (vars k vs)

abbrev pub param : Search Param
param k p = own k p.node (type k p.ty)

abbrev pub params : Search (List Param)
params k [] = None
params k (p ∷ ps) = or (param k p) (params k ps)

abbrev mutual
  pub stmt : Search Stmt
  stmt k (t.Block n xs) = own k n (stmts k xs)
  stmt k (t.Local n final_ ty vs) = own k n (or (type k ty) (vars k vs))
  stmt k (t.Empty n) = own k n None
  stmt k (t.Value n x) = own k n (expr k x)
  stmt k (t.If n x a b) = own k n (or (expr k x) (or (stmt k a) (maybe_stmt k b)))
  stmt k (t.While n x a) = own k n (or (expr k x) (stmt k a))
  stmt k (t.Do n a x) = own k n (or (stmt k a) (expr k x))
  stmt k (t.For n xs x ys a) = own k n (or (stmts k xs) (or (init k x) (or (exprs k ys) (stmt k a))))
  stmt k (t.ForEach n final_ ty v x a) = own k n (or (type k ty) (or (expr k x) (stmt k a)))
  stmt k (t.Switch n x gs) = own k n (or (expr k x) (groups k gs))
  stmt k (t.Break n) = own k n None
  stmt k (t.Continue n) = own k n None
  stmt k (t.Return n x) = own k n (init k x)
  stmt k (t.Throw n x) = own k n (expr k x)
  stmt k (t.Try n a cs b) = own k n (or (stmt k a) (or (catches k cs) (maybe_stmt k b)))
  stmt k (t.ThisCall n xs) = own k n (exprs k xs)
  stmt k (t.SuperCall n xs) = own k n (exprs k xs)

  pub maybe_stmt : Search MaybeStmt
  maybe_stmt k t.NoStmt = None
  maybe_stmt k (t.AStmt x) = stmt k x

  pub stmts : Search Stmts
  stmts k t.Last = None
  stmts k (t.Then x xs) = or (stmt k x) (stmts k xs)

  pub group : Search Group
  group k (t.Labelled n ls xs) = own k n (or (labels k ls) (stmts k xs))

  pub groups : Search Groups
  groups k t.NoGroup = None
  groups k (t.AndGroup g gs) = or (group k g) (groups k gs)

  pub catch : Search Catch
  catch k (t.Caught n p x) = own k n (or (param k p) (stmt k x))

  pub catches : Search Catches
  catches k t.NoCatch = None
  catches k (t.AndCatch c cs) = or (catch k c) (catches k cs)

abbrev pub result : Search (Option TypeExpr)
result k None = None
result k (Some x) = type k x

abbrev pub body : Search (Option Stmt)
body k None = None
body k (Some x) = stmt k x

abbrev pub member : Search Member
member k (t.AField f) = own k f.node (or (type k f.ty) (vars k f.vars))
member k (t.AMethod m) = own k m.node (or (result k m.result) (or (params k m.params) (or (types k (view.types m.throws)) (body k m.body))))

abbrev pub members : Search (List Member)
members k [] = None
members k (m ∷ ms) = or (member k m) (members k ms)

abbrev pub decl : Search TypeDecl
decl k d = own k d.node (or (types k (view.types d.extends)) (or (types k (view.types d.implements)) (members k d.members)))

abbrev pub decls : Search (List TypeDecl)
decls k [] = None
decls k (d ∷ ds) = or (decl k d) (decls k ds)

abbrev pub imports : Search (List declared.Import)
imports k [] = None
imports k (x ∷ xs) = own k x.node (imports k xs)

-- a file
abbrev pub unit : Search SourceUnit
unit k u = own k u.node (or (imports k u.imports) (decls k u.types))
