-- The plain core of a core of the code.
use Rattle.std.specs.Prelude.{List, [], ◌∷◌, map, Option, Some, None}
use Rattle.std.specs.Option.{option_map}
use Rattle.java_tree.specs.declared.tree.Node.{Node}
use Rattle.java_core.specs.declared.written.CoreType as declared_type
use Rattle.java_core.specs.declared.written.CoreType.TheOpen.{CoreType-F}
use Rattle.java_core.specs.declared.written.CoreType.TheFolds.{fold-CoreType}
use Rattle.java_core.specs.declared.expr.CoreExpr as declared_expr
use Rattle.java_core.specs.declared.expr.CoreForm as declared_form
use Rattle.java_core.specs.declared.expr.CoreForm.TheOpen.{CoreForm-F, CoreExpr-F}
use Rattle.java_core.specs.declared.expr.CoreForm.TheOpen as e
use Rattle.java_core.specs.declared.expr.CoreForm.TheFolds.{fold-CoreExpr, fold-CoreForm}
use Rattle.java_core.specs.declared.stmt.CoreVar as declared_var
use Rattle.java_core.specs.declared.stmt.CoreParam as declared_param
use Rattle.java_core.specs.declared.stmt.CoreStmt as declared_stmt
use Rattle.java_core.specs.declared.stmt.CoreStmtForm as declared_stmt_form
use Rattle.java_core.specs.declared.stmt.CoreStmtForm.TheOpen.{CoreStmtForm-F, CoreStmt-F, CoreGroup-F, CoreCatch-F}
use Rattle.java_core.specs.declared.stmt.CoreStmtForm.TheOpen as s
use Rattle.java_core.specs.declared.stmt.CoreStmtForm.TheFolds.{fold-CoreStmt, fold-CoreStmtForm, fold-CoreGroup, fold-CoreCatch}
use Rattle.java_core.specs.declared.stmt.CoreGroup as declared_group
use Rattle.java_core.specs.declared.stmt.CoreCatch as declared_catch
use Rattle.java_core.specs.declared.program.CoreField as declared_field
use Rattle.java_core.specs.declared.program.CoreMethod as declared_method
use Rattle.java_core.specs.declared.program.CoreMember as declared_member
use Rattle.java_core.specs.declared.program.CoreMember.TheVariants as m
use Rattle.java_core.specs.declared.program.CoreClass as declared_class
use Rattle.java_core.specs.declared.program.CoreFile as declared_file
use Rattle.java_core.specs.declared.program.CoreProgram as declared_program
use Rattle.java_core.specs.Plain as p
use Rattle.java_core.specs.Plain.{Written, Writtens, Expr, Form, MaybeExpr, Exprs, Var, Param, Stmt, MaybeStmt, Stmts, Group, Groups, Catch, Catches, FieldVar, Method, Member, Class, File, Program}

-- ---- written types

abbrev pub type_row : List Written → Writtens
type_row [] = p.NoTypes
type_row (x ∷ xs) = p.AndType x (type_row xs)

abbrev pub at_type : CoreType-F Written → Written
at_type x = p.AType x.node x.head x.ty (type_row x.args)

abbrev pub written : declared_type.CoreType → Written
written = fold-CoreType Written at_type

-- ---- expressions

abbrev pub row : List Expr → Exprs
row [] = p.End
row (x ∷ xs) = p.Also x (row xs)

abbrev pub maybe : Option Expr → MaybeExpr
maybe None = p.NoExpr
maybe (Some x) = p.AnExpr x

abbrev pub at_form : CoreForm-F Form Expr → Form
at_form (e.Int x) = p.Int x
at_form (e.Long x) = p.Long x
at_form (e.Char x) = p.Char x
at_form (e.Text x) = p.Text x
at_form (e.Truth x) = p.Truth x
at_form e.Null = p.Null
at_form e.This = p.This
at_form (e.Local k) = p.Local k
at_form (e.Paren x) = p.Paren x
at_form (e.Widen x) = p.Widen x
at_form (e.Implied x) = p.Implied x
at_form (e.Field x simple k) = p.Field x simple k
at_form (e.SuperField k) = p.SuperField k
at_form (e.StaticField before x k) = p.StaticField before (maybe x) k
at_form (e.Length x) = p.Length x
at_form (e.Index x y) = p.Index x y
at_form (e.Call x simple k xs) = p.Call x simple k (row xs)
at_form (e.SuperCall k xs) = p.SuperCall k (row xs)
at_form (e.StaticCall before x k xs) = p.StaticCall before (maybe x) k (row xs)
at_form (e.New ty k xs) = p.New (written ty) k (row xs)
at_form (e.NewArray ty xs) = p.NewArray (written ty) (row xs)
at_form (e.NewFilled ty x) = p.NewFilled (written ty) x
at_form (e.Filled xs) = p.Filled (row xs)
at_form (e.Unary op x) = p.Unary op x
at_form (e.Step up before x) = p.Step up before x
at_form (e.Cast ty close x) = p.Cast (written ty) close x
at_form (e.Binary op k x y) = p.Binary op k x y
at_form (e.Logic both x y) = p.Logic both x y
at_form (e.InstanceOf x ty) = p.InstanceOf x (written ty)
at_form (e.Cond x y z) = p.Cond x y z
at_form (e.Assign x y) = p.Assign x y
at_form (e.Compound op k x y) = p.Compound op k x y

abbrev pub at_node : CoreExpr-F Form Expr → Expr
at_node x = p.At x.node x.ty x.form

abbrev pub plain : declared_expr.CoreExpr → Expr
plain = fold-CoreExpr Form Expr at_form at_node

abbrev pub form_plain : declared_form.CoreForm → Form
form_plain = fold-CoreForm Form Expr at_form at_node

abbrev pub plains : List declared_expr.CoreExpr → Exprs
plains xs = row (map plain xs)

-- ---- statements

abbrev pub var_plain : declared_var.CoreVar → Var
var_plain x = record { node = x.node; name = x.name; slot = x.slot; ty = x.ty; init = option_map plain x.init }

abbrev pub param_plain : declared_param.CoreParam → Param
param_plain x = record { node = x.node; is_final = x.is_final; name = x.name; slot = x.slot; ty = x.ty; written = written x.written }

abbrev pub stmt_row : List Stmt → Stmts
stmt_row [] = p.Last
stmt_row (x ∷ xs) = p.Then x (stmt_row xs)

abbrev pub stmt_maybe : Option Stmt → MaybeStmt
stmt_maybe None = p.NoStmt
stmt_maybe (Some x) = p.AStmt x

abbrev pub group_row : List Group → Groups
group_row [] = p.NoGroup
group_row (x ∷ xs) = p.AndGroup x (group_row xs)

abbrev pub catch_row : List Catch → Catches
catch_row [] = p.NoCatch
catch_row (x ∷ xs) = p.AndCatch x (catch_row xs)

abbrev pub stmt_form : CoreStmtForm-F (Node → Stmt) Catch Group Stmt → Node → Stmt
stmt_form (s.Block xs) n = p.Block n (stmt_row xs)
stmt_form (s.Local f ty xs) n = p.Locals n f (written ty) (map var_plain xs)
stmt_form s.Empty n = p.Empty n
stmt_form (s.Value x) n = p.Value n (plain x)
stmt_form (s.If x a b) n = p.If n (plain x) a (stmt_maybe b)
stmt_form (s.While x a) n = p.While n (plain x) a
stmt_form (s.Do a x) n = p.Do n a (plain x)
stmt_form (s.For xs x ys a) n = p.For n (stmt_row xs) (option_map plain x) (row (map plain ys)) a
stmt_form (s.ForEach f ty v x item implied a) n = p.ForEach n f (written ty) (var_plain v) (plain x) item implied a
stmt_form (s.Switch x gs) n = p.Switch n (plain x) (group_row gs)
stmt_form s.Break n = p.Break n
stmt_form s.Continue n = p.Continue n
stmt_form (s.Return x) n = p.Return n (option_map plain x)
stmt_form (s.Throw x) n = p.Throw n (plain x)
stmt_form (s.Try a cs b) n = p.Try n a (catch_row cs) (stmt_maybe b)
stmt_form (s.ThisCall k xs) n = p.ThisCall n k (row (map plain xs))
stmt_form (s.SuperCall k xs) n = p.SuperFirst n k (row (map plain xs))

abbrev pub catch_node : CoreCatch-F (Node → Stmt) Catch Group Stmt → Catch
catch_node x = p.Caught x.node (param_plain x.param) x.body

abbrev pub group_node : CoreGroup-F (Node → Stmt) Catch Group Stmt → Group
group_node x = p.Labelled x.node x.labels (stmt_row x.body)

abbrev pub stmt_node : CoreStmt-F (Node → Stmt) Catch Group Stmt → Stmt
stmt_node x = x.form x.node

abbrev pub stmt_plain : declared_stmt.CoreStmt → Stmt
stmt_plain = fold-CoreStmt (Node → Stmt) Catch Group Stmt stmt_form catch_node group_node stmt_node

abbrev pub stmt_form_plain : declared_stmt_form.CoreStmtForm → Node → Stmt
stmt_form_plain = fold-CoreStmtForm (Node → Stmt) Catch Group Stmt stmt_form catch_node group_node stmt_node

abbrev pub group_plain : declared_group.CoreGroup → Group
group_plain = fold-CoreGroup (Node → Stmt) Catch Group Stmt stmt_form catch_node group_node stmt_node

abbrev pub catch_plain : declared_catch.CoreCatch → Catch
catch_plain = fold-CoreCatch (Node → Stmt) Catch Group Stmt stmt_form catch_node group_node stmt_node

abbrev pub stmts_plain : List declared_stmt.CoreStmt → Stmts
stmts_plain xs = stmt_row (map stmt_plain xs)

-- ---- classes and their members

abbrev pub field_plain : declared_field.CoreField → FieldVar
field_plain x = record { node = x.node; field = x.field; init = option_map plain x.init }

abbrev pub method_plain : declared_method.CoreMethod → Method
method_plain x = record {
  node = x.node;
  method = x.method;
  result = option_map written x.result;
  params = map param_plain x.params;
  throws = map written x.throws;
  implied = x.implied;
  body = option_map stmt_plain x.body;
}

abbrev pub member_plain : declared_member.CoreMember → Member
member_plain (m.Fields n ty xs) = p.Fields n (written ty) (map field_plain xs)
member_plain (m.Method x) = p.AMethod (method_plain x)

abbrev pub class_plain : declared_class.CoreClass → Class
class_plain x = record {
  node = x.node;
  number = x.number;
  name_end = x.name_end;
  extends = map written x.extends;
  implements = map written x.implements;
  members = map member_plain x.members;
  default = x.default;
}

abbrev pub file_plain : declared_file.CoreFile → File
file_plain x = record { classes = map class_plain x.classes }

abbrev pub program_plain : declared_program.CoreProgram → Program
program_plain x = record { files = map file_plain x.files }
