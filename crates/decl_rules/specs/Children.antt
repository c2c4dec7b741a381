-- The children of a node that are nodes, in the order of the text. Names, modifiers and the label `default` are none.
use Rattle.std.specs.Prelude.{ℕ, List, [], ◌∷◌, ◌++◌, map, Option, Some, None, slice_get, option_and_then}
use Rattle.java_tree.specs.declared.tree.Import as declared
use Rattle.java_tree.specs.Plain as t

pub data Item : Type 0 where
  File : t.SourceUnit → Item
  Import : declared.Import → Item
  Decl : t.TypeDecl → Item
  Member : t.Member → Item
  Var : t.Var → Item
  Param : t.Param → Item
  TypeExpr : t.TypeExpr → Item
  Stmt : t.Stmt → Item
  Group : t.Group → Item
  Catch : t.Catch → Item
  Expr : t.Expr → Item

abbrev pub types : t.TypeExprs → List Item
types t.NoTypes = []
types (t.AndType x xs) = TypeExpr x ∷ types xs

abbrev pub maybe_type : Option t.TypeExpr → List Item
maybe_type None = []
maybe_type (Some x) = TypeExpr x ∷ []

abbrev pub exprs : t.Exprs → List Item
exprs t.End = []
exprs (t.Also x xs) = Expr x ∷ exprs xs

abbrev pub maybe_expr : t.MaybeExpr → List Item
maybe_expr t.NoExpr = []
maybe_expr (t.AnExpr x) = Expr x ∷ []

abbrev pub init : Option t.Expr → List Item
init None = []
init (Some x) = Expr x ∷ []

abbrev pub labels : List (Option t.Expr) → List Item
labels [] = []
labels (None ∷ xs) = labels xs
labels (Some x ∷ xs) = Expr x ∷ labels xs

abbrev pub stmts : t.Stmts → List Item
stmts t.Last = []
stmts (t.Then x xs) = Stmt x ∷ stmts xs

abbrev pub maybe_stmt : t.MaybeStmt → List Item
maybe_stmt t.NoStmt = []
maybe_stmt (t.AStmt x) = Stmt x ∷ []

abbrev pub body : Option t.Stmt → List Item
body None = []
body (Some x) = Stmt x ∷ []

abbrev pub groups : t.Groups → List Item
groups t.NoGroup = []
groups (t.AndGroup x xs) = Group x ∷ groups xs

abbrev pub catches : t.Catches → List Item
catches t.NoCatch = []
catches (t.AndCatch x xs) = Catch x ∷ catches xs

abbrev pub of_member : t.Member → List Item
of_member (t.AField f) = TypeExpr f.ty ∷ map Var f.vars
of_member (t.AMethod m) = maybe_type m.result ++ map Param m.params ++ map TypeExpr m.throws ++ body m.body

abbrev pub of_type : t.TypeExpr → List Item
of_type (t.Written n h s xs d) = types xs

abbrev pub of_stmt : t.Stmt → List Item
of_stmt (t.Block n xs) = stmts xs
of_stmt (t.Local n f ty vs) = TypeExpr ty ∷ map Var vs
of_stmt (t.Empty n) = []
of_stmt (t.Value n x) = Expr x ∷ []
of_stmt (t.If n x a b) = Expr x ∷ Stmt a ∷ maybe_stmt b
of_stmt (t.While n x a) = Expr x ∷ Stmt a ∷ []
of_stmt (t.Do n a x) = Stmt a ∷ Expr x ∷ []
of_stmt (t.For n xs x ys a) = stmts xs ++ init x ++ exprs ys ++ Stmt a ∷ []
of_stmt (t.ForEach n f ty v x a) = TypeExpr ty ∷ Expr x ∷ Stmt a ∷ []
of_stmt (t.Switch n x gs) = Expr x ∷ groups gs
of_stmt (t.Break n) = []
of_stmt (t.Continue n) = []
of_stmt (t.Return n x) = init x
of_stmt (t.Throw n x) = Expr x ∷ []
of_stmt (t.Try n a cs b) = Stmt a ∷ catches cs ++ maybe_stmt b
of_stmt (t.ThisCall n xs) = exprs xs
of_stmt (t.SuperCall n xs) = exprs xs

abbrev pub of_group : t.Group → List Item
of_group (t.Labelled n ls xs) = labels ls ++ stmts xs

abbrev pub of_catch : t.Catch → List Item
of_catch (t.Caught n p x) = Param p ∷ Stmt x ∷ []

abbrev pub of_expr : t.Expr → List Item
of_expr (t.Number n x d l) = []
of_expr (t.Char n x) = []
of_expr (t.Text n x) = []
of_expr (t.Truth n x) = []
of_expr (t.Null n) = []
of_expr (t.This n) = []
of_expr (t.Name n x) = []
of_expr (t.Field n x f) = Expr x ∷ []
of_expr (t.SuperField n f) = []
of_expr (t.Index n x y) = Expr x ∷ Expr y ∷ []
of_expr (t.Call n of f xs) = maybe_expr of ++ exprs xs
of_expr (t.SuperMethod n f xs) = exprs xs
of_expr (t.New n ty xs) = TypeExpr ty ∷ exprs xs
of_expr (t.NewArray n ty xs extra) = TypeExpr ty ∷ exprs xs
of_expr (t.NewFilled n ty x) = TypeExpr ty ∷ Expr x ∷ []
of_expr (t.Items n xs) = exprs xs
of_expr (t.Paren n x) = Expr x ∷ []
of_expr (t.Unary n op x) = Expr x ∷ []
of_expr (t.Step n up before x) = Expr x ∷ []
of_expr (t.Cast n ty close x) = TypeExpr ty ∷ Expr x ∷ []
of_expr (t.Binary n op x y) = Expr x ∷ Expr y ∷ []
of_expr (t.InstanceOf n x ty) = Expr x ∷ TypeExpr ty ∷ []
of_expr (t.Cond n x y z) = Expr x ∷ Expr y ∷ Expr z ∷ []
of_expr (t.Assign n op x y) = Expr x ∷ Expr y ∷ []

abbrev pub children : Item → List Item
children (File u) = map Import u.imports ++ map Decl u.types
children (Import i) = []
children (Decl d) = map TypeExpr d.extends ++ map TypeExpr d.implements ++ map Member d.members
children (Member m) = of_member m
children (Var v) = init v.init
children (Param p) = TypeExpr p.ty ∷ []
children (TypeExpr x) = of_type x
children (Stmt x) = of_stmt x
children (Group g) = of_group g
children (Catch c) = of_catch c
children (Expr x) = of_expr x

-- the node at the end of a path of positions, if each of them has a child
abbrev pub descend : Item → List ℕ → Option Item
descend x [] = Some x
descend x (i ∷ path) = option_and_then (λ y. descend y path) (slice_get (children x) i)
