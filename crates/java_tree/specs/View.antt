-- The plain tree of a tree of the code.
use Rattle.std.specs.Prelude.{List, [], ◌∷◌, map, Option, Some, None}
use Rattle.std.specs.Option.{option_map}
use Rattle.java_tree.specs.declared.tree.Node.{Node}
use Rattle.java_tree.specs.declared.tree.TypeExpr as declared_type
use Rattle.java_tree.specs.declared.tree.TypeExpr.TheOpen.{TypeExpr-F}
use Rattle.java_tree.specs.declared.tree.TypeExpr.TheFolds.{fold-TypeExpr}
use Rattle.java_tree.specs.declared.tree.Expr as declared_expr
use Rattle.java_tree.specs.declared.tree.ExprForm as declared_form
use Rattle.java_tree.specs.declared.tree.ExprForm.TheOpen.{ExprForm-F, Expr-F}
use Rattle.java_tree.specs.declared.tree.ExprForm.TheOpen as e
use Rattle.java_tree.specs.declared.tree.ExprForm.TheFolds.{fold-Expr, fold-ExprForm}
use Rattle.java_tree.specs.declared.tree.Stmt as declared_stmt
use Rattle.java_tree.specs.declared.tree.StmtForm as declared_stmt_form
use Rattle.java_tree.specs.declared.tree.StmtForm.TheOpen.{StmtForm-F, Stmt-F, Group-F, Catch-F}
use Rattle.java_tree.specs.declared.tree.StmtForm.TheOpen as s
use Rattle.java_tree.specs.declared.tree.StmtForm.TheFolds.{fold-Stmt, fold-StmtForm, fold-Group, fold-Catch}
use Rattle.java_tree.specs.declared.tree.Group as declared_group
use Rattle.java_tree.specs.declared.tree.Catch as declared_catch
use Rattle.java_tree.specs.declared.tree.Var as declared_var
use Rattle.java_tree.specs.declared.tree.Param as declared_param
use Rattle.java_tree.specs.declared.tree.Member as declared_member
use Rattle.java_tree.specs.declared.tree.Member.TheVariants as m
use Rattle.java_tree.specs.declared.tree.TypeDecl as declared_decl
use Rattle.java_tree.specs.declared.tree.SourceUnit as declared_unit
use Rattle.java_tree.specs.Plain as t
use Rattle.java_tree.specs.Plain.{TypeExpr, TypeExprs, Expr, Exprs, MaybeExpr, Stmt, MaybeStmt, Stmts, Group, Groups, Catch, Catches, Var, Param, Member, TypeDecl, SourceUnit}

abbrev pub types : List TypeExpr → TypeExprs
types [] = t.NoTypes
types (x ∷ xs) = t.AndType x (types xs)

abbrev pub at_type : TypeExpr-F TypeExpr → TypeExpr
at_type x = t.Written x.node x.head x.head_span (types x.args) x.dims

abbrev pub type_plain : declared_type.TypeExpr → TypeExpr
type_plain = fold-TypeExpr TypeExpr at_type

abbrev pub row : List Expr → Exprs
row [] = t.End
row (x ∷ xs) = t.Also x (row xs)

abbrev pub maybe : Option Expr → MaybeExpr
maybe None = t.NoExpr
maybe (Some x) = t.AnExpr x

-- the forms in the order of the code's list
abbrev pub at_form : ExprForm-F (Node → Expr) Expr → Node → Expr
at_form (e.Number x d l) n = t.Number n x d l
at_form (e.Char x) n = t.Char n x
at_form (e.Text x) n = t.Text n x
at_form (e.Bool x) n = t.Truth n x
at_form e.Null n = t.Null n
at_form e.This n = t.This n
at_form (e.Name x) n = t.Name n x
at_form (e.Field x f) n = t.Field n x f
at_form (e.SuperField f) n = t.SuperField n f
at_form (e.Index x i) n = t.Index n x i
at_form (e.Call of x xs) n = t.Call n (maybe of) x (row xs)
at_form (e.SuperMethod x xs) n = t.SuperMethod n x (row xs)
at_form (e.New ty xs) n = t.New n (type_plain ty) (row xs)
at_form (e.NewArray ty xs k) n = t.NewArray n (type_plain ty) (row xs) k
at_form (e.NewFilled ty x) n = t.NewFilled n (type_plain ty) x
at_form (e.Items xs) n = t.Items n (row xs)
at_form (e.Paren x) n = t.Paren n x
at_form (e.Unary op x) n = t.Unary n op x
at_form (e.Step up before x) n = t.Step n up before x
at_form (e.Cast ty c x) n = t.Cast n (type_plain ty) c x
at_form (e.Binary op a b) n = t.Binary n op a b
at_form (e.InstanceOf x ty) n = t.InstanceOf n x (type_plain ty)
at_form (e.Cond a b c) n = t.Cond n a b c
at_form (e.Assign op a b) n = t.Assign n op a b

abbrev pub at_node : Expr-F (Node → Expr) Expr → Expr
at_node x = x.form x.node

abbrev pub plain : declared_expr.Expr → Expr
plain = fold-Expr (Node → Expr) Expr at_form at_node

-- a form, at a node
abbrev pub form_plain : declared_form.ExprForm → Node → Expr
form_plain = fold-ExprForm (Node → Expr) Expr at_form at_node

abbrev pub plains : List declared_expr.Expr → Exprs
plains xs = row (map plain xs)

abbrev pub var_plain : declared_var.Var → Var
var_plain x = record { node = x.node; name = x.name; dims = x.dims; init = option_map plain x.init }

abbrev pub param_plain : declared_param.Param → Param
param_plain x = record { node = x.node; is_final = x.is_final; ty = type_plain x.ty; name = x.name; dims = x.dims }

abbrev pub stmt_row : List Stmt → Stmts
stmt_row [] = t.Last
stmt_row (x ∷ xs) = t.Then x (stmt_row xs)

abbrev pub stmt_maybe : Option Stmt → MaybeStmt
stmt_maybe None = t.NoStmt
stmt_maybe (Some x) = t.AStmt x

abbrev pub group_row : List Group → Groups
group_row [] = t.NoGroup
group_row (x ∷ xs) = t.AndGroup x (group_row xs)

abbrev pub catch_row : List Catch → Catches
catch_row [] = t.NoCatch
catch_row (x ∷ xs) = t.AndCatch x (catch_row xs)

abbrev pub stmt_form : StmtForm-F (Node → Stmt) Catch Group Stmt → Node → Stmt
stmt_form (s.Block xs) n = t.Block n (stmt_row xs)
stmt_form (s.Local f ty xs) n = t.Local n f (type_plain ty) (map var_plain xs)
stmt_form s.Empty n = t.Empty n
stmt_form (s.Value x) n = t.Value n (plain x)
stmt_form (s.If x a b) n = t.If n (plain x) a (stmt_maybe b)
stmt_form (s.While x a) n = t.While n (plain x) a
stmt_form (s.Do a x) n = t.Do n a (plain x)
stmt_form (s.For xs x ys a) n = t.For n (stmt_row xs) (option_map plain x) (row (map plain ys)) a
stmt_form (s.ForEach f ty x y a) n = t.ForEach n f (type_plain ty) x (plain y) a
stmt_form (s.Switch x gs) n = t.Switch n (plain x) (group_row gs)
stmt_form s.Break n = t.Break n
stmt_form s.Continue n = t.Continue n
stmt_form (s.Return x) n = t.Return n (option_map plain x)
stmt_form (s.Throw x) n = t.Throw n (plain x)
stmt_form (s.Try a cs b) n = t.Try n a (catch_row cs) (stmt_maybe b)
stmt_form (s.ThisCall xs) n = t.ThisCall n (row (map plain xs))
stmt_form (s.SuperCall xs) n = t.SuperCall n (row (map plain xs))

abbrev pub catch_node : Catch-F (Node → Stmt) Catch Group Stmt → Catch
catch_node x = t.Caught x.node (param_plain x.param) x.body

abbrev pub group_node : Group-F (Node → Stmt) Catch Group Stmt → Group
group_node x = t.Labelled x.node (map (option_map plain) x.labels) (stmt_row x.body)

abbrev pub stmt_node : Stmt-F (Node → Stmt) Catch Group Stmt → Stmt
stmt_node x = x.form x.node

abbrev pub stmt_plain : declared_stmt.Stmt → Stmt
stmt_plain = fold-Stmt (Node → Stmt) Catch Group Stmt stmt_form catch_node group_node stmt_node

abbrev pub stmt_form_plain : declared_stmt_form.StmtForm → Node → Stmt
stmt_form_plain = fold-StmtForm (Node → Stmt) Catch Group Stmt stmt_form catch_node group_node stmt_node

abbrev pub group_plain : declared_group.Group → Group
group_plain = fold-Group (Node → Stmt) Catch Group Stmt stmt_form catch_node group_node stmt_node

abbrev pub catch_plain : declared_catch.Catch → Catch
catch_plain = fold-Catch (Node → Stmt) Catch Group Stmt stmt_form catch_node group_node stmt_node

abbrev pub stmts_plain : List declared_stmt.Stmt → Stmts
stmts_plain xs = stmt_row (map stmt_plain xs)

abbrev pub member_plain : declared_member.Member → Member
member_plain (m.Field n mods ty vars) = t.AField (record { node = n; mods = mods; ty = type_plain ty; vars = map var_plain vars })
member_plain (m.Method n mods result constructor name params throws body) =
    t.AMethod (record {
      node = n;
      mods = mods;
      result = option_map type_plain result;
      constructor = constructor;
      name = name;
      params = map param_plain params;
      throws = map type_plain throws;
      body = option_map stmt_plain body;
    })

abbrev pub decl_plain : declared_decl.TypeDecl → TypeDecl
decl_plain d = record {
  node = d.node;
  mods = d.mods;
  interface = d.interface;
  name = d.name;
  name_end = d.name_end;
  params = d.params;
  extends = map type_plain d.extends;
  implements = map type_plain d.implements;
  members = map member_plain d.members;
}

-- a file
abbrev pub unit_plain : declared_unit.SourceUnit → SourceUnit
unit_plain u = record { node = u.node; «package» = u.package; imports = u.imports; types = map decl_plain u.types }
