-- The nodes of a tree behind those before it: its own node first, and then those of the trees in it, in the order of the text.
use Rattle.std.specs.Prelude.{List, [], ◌∷◌, ◌++◌, Option, Some, None}
use Rattle.java_tree.specs.declared.tree.Node.{Node}
use Rattle.java_tree.specs.declared.tree.Import as declared
use Rattle.java_tree.specs.Plain as t
use Rattle.java_tree.specs.Plain.{TypeExpr, TypeExprs, Expr, MaybeExpr, Exprs, Var, Param, Stmt, MaybeStmt, Stmts, Group, Groups, Catch, Catches, Member, TypeDecl, SourceUnit}
use Rattle.java_tree.specs.View as view

abbrev pub Listing : Type 0 → Type 0
Listing A = A → List Node → List Node

abbrev pub node : Listing Node
node n ns = ns ++ (n ∷ [])

abbrev mutual
  pub type : Listing TypeExpr
  type (t.Written n h s xs d) ns = types xs (node n ns)

  pub types : Listing TypeExprs
  types t.NoTypes ns = ns
  types (t.AndType x xs) ns = types xs (type x ns)

abbrev mutual
  pub expr : Listing Expr
  expr (t.Number n x d l) ns = node n ns
  expr (t.Char n x) ns = node n ns
  expr (t.Text n x) ns = node n ns
  expr (t.Truth n x) ns = node n ns
  expr (t.Null n) ns = node n ns
  expr (t.This n) ns = node n ns
  expr (t.Name n x) ns = node n ns
  expr (t.Field n x f) ns = expr x (node n ns)
  expr (t.SuperField n f) ns = node n ns
  expr (t.Index n x y) ns = expr y (expr x (node n ns))
  expr (t.Call n of f xs) ns = exprs xs (maybe of (node n ns))
  expr (t.SuperMethod n f xs) ns = exprs xs (node n ns)
  expr (t.New n ty xs) ns = exprs xs (type ty (node n ns))
  expr (t.NewArray n ty xs extra) ns = exprs xs (type ty (node n ns))
  expr (t.NewFilled n ty x) ns = expr x (type ty (node n ns))
  expr (t.Items n xs) ns = exprs xs (node n ns)
  expr (t.Paren n x) ns = expr x (node n ns)
  expr (t.Unary n op x) ns = expr x (node n ns)
  expr (t.Step n up before x) ns = expr x (node n ns)
  expr (t.Cast n ty close x) ns = expr x (type ty (node n ns))
  expr (t.Binary n op x y) ns = expr y (expr x (node n ns))
  expr (t.InstanceOf n x ty) ns = type ty (expr x (node n ns))
  expr (t.Cond n x y z) ns = expr z (expr y (expr x (node n ns)))
  expr (t.Assign n op x y) ns = expr y (expr x (node n ns))

  pub maybe : Listing MaybeExpr
  maybe t.NoExpr ns = ns
  maybe (t.AnExpr x) ns = expr x ns

  pub exprs : Listing Exprs
  exprs t.End ns = ns
  exprs (t.Also x xs) ns = exprs xs (expr x ns)

abbrev pub init : Listing (Option Expr)
init None ns = ns
init (Some x) ns = expr x ns

abbrev pub labels : Listing (List (Option Expr))
labels [] ns = ns
labels (x ∷ xs) ns = labels xs (init x ns)

abbrev pub var : Listing Var
var v ns = init v.init (node v.node ns)

abbrev pub vars : Listing (List Var)
vars [] ns = ns
vars (v ∷ vs) ns = vars vs (var v ns)

abbrev pub param : Listing Param
param p ns = type p.ty (node p.node ns)

abbrev pub params : Listing (List Param)
params [] ns = ns
params (p ∷ ps) ns = params ps (param p ns)

abbrev mutual
  pub stmt : Listing Stmt
  stmt (t.Block n xs) ns = stmts xs (node n ns)
  stmt (t.Local n final_ ty vs) ns = vars vs (type ty (node n ns))
  stmt (t.Empty n) ns = node n ns
  stmt (t.Value n x) ns = expr x (node n ns)
  stmt (t.If n x a b) ns = maybe_stmt b (stmt a (expr x (node n ns)))
  stmt (t.While n x a) ns = stmt a (expr x (node n ns))
  stmt (t.Do n a x) ns = expr x (stmt a (node n ns))
  stmt (t.For n xs x ys a) ns = stmt a (exprs ys (init x (stmts xs (node n ns))))
  stmt (t.ForEach n final_ ty v x a) ns = stmt a (expr x (type ty (node n ns)))
  stmt (t.Switch n x gs) ns = groups gs (expr x (node n ns))
  stmt (t.Break n) ns = node n ns
  stmt (t.Continue n) ns = node n ns
  stmt (t.Return n x) ns = init x (node n ns)
  stmt (t.Throw n x) ns = expr x (node n ns)
  stmt (t.Try n a cs b) ns = maybe_stmt b (catches cs (stmt a (node n ns)))
  stmt (t.ThisCall n xs) ns = exprs xs (node n ns)
  stmt (t.SuperCall n xs) ns = exprs xs (node n ns)

  pub maybe_stmt : Listing MaybeStmt
  maybe_stmt t.NoStmt ns = ns
  maybe_stmt (t.AStmt x) ns = stmt x ns

  pub stmts : Listing Stmts
  stmts t.Last ns = ns
  stmts (t.Then x xs) ns = stmts xs (stmt x ns)

  pub group : Listing Group
  group (t.Labelled n ls xs) ns = stmts xs (labels ls (node n ns))

  pub groups : Listing Groups
  groups t.NoGroup ns = ns
  groups (t.AndGroup g gs) ns = groups gs (group g ns)

  pub catch : Listing Catch
  catch (t.Caught n p x) ns = stmt x (param p (node n ns))

  pub catches : Listing Catches
  catches t.NoCatch ns = ns
  catches (t.AndCatch c cs) ns = catches cs (catch c ns)

abbrev pub result : Listing (Option TypeExpr)
result None ns = ns
result (Some x) ns = type x ns

abbrev pub body : Listing (Option Stmt)
body None ns = ns
body (Some x) ns = stmt x ns

abbrev pub member : Listing Member
member (t.AField f) ns = vars f.vars (type f.ty (node f.node ns))
member (t.AMethod m) ns = body m.body (types (view.types m.throws) (params m.params (result m.result (node m.node ns))))

abbrev pub members : Listing (List Member)
members [] ns = ns
members (m ∷ ms) ns = members ms (member m ns)

abbrev pub decl : Listing TypeDecl
decl d ns = members d.members (types (view.types d.implements) (types (view.types d.extends) (node d.node ns)))

abbrev pub decls : Listing (List TypeDecl)
decls [] ns = ns
decls (d ∷ ds) ns = decls ds (decl d ns)

abbrev pub imports : Listing (List declared.Import)
imports [] ns = ns
imports (x ∷ xs) ns = imports xs (node x.node ns)

-- a file
abbrev pub unit : Listing SourceUnit
unit u ns = decls u.types (imports u.imports (node u.node ns))
