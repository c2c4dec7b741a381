-- The view, form by form.
use Rattle.std.specs.Option.{option_map}
use Rattle.std.proofs.Common.{◌≡◌, ℕ, Bool, List, Option, Some, None, map, refl, ap, ◌∙◌}
use Rattle.java_tree.specs.declared.tree.Node.{Node}
use Rattle.java_tree.specs.declared.tree.Span.{Span}
use Rattle.java_tree.specs.declared.tree.Head.{Head}
use Rattle.java_tree.specs.declared.tree.Name.{Name}
use Rattle.java_tree.specs.declared.tree.UnOp.{UnOp}
use Rattle.java_tree.specs.declared.tree.BinOp.{BinOp}
use Rattle.java_tree.specs.declared.tree.Var.{Var}
use Rattle.java_tree.specs.declared.tree.TypeExpr.{TypeExpr, roll-TypeExpr, out-TypeExpr, out-roll-TypeExpr}
use Rattle.java_tree.specs.declared.tree.TypeExpr.TheFolds.{fold_out-TypeExpr, map-TypeExpr}
use Rattle.java_tree.specs.declared.tree.Expr.{Expr}
use Rattle.java_tree.specs.declared.tree.ExprForm.{ExprForm, out-ExprForm}
use Rattle.java_tree.specs.declared.tree.ExprForm.TheVariants as v
use Rattle.java_tree.specs.declared.tree.ExprForm.TheOpen as f
use Rattle.java_tree.specs.declared.tree.ExprForm.TheFolds.{fold-ExprForm, fold_out-ExprForm, fold_out-Expr, map-ExprForm}
use Rattle.java_tree.specs.declared.tree.Stmt.{Stmt}
use Rattle.java_tree.specs.declared.tree.Catch.{Catch}
use Rattle.java_tree.specs.declared.tree.Group.{Group}
use Rattle.java_tree.specs.declared.tree.StmtForm.{StmtForm, out-StmtForm}
use Rattle.java_tree.specs.declared.tree.StmtForm.TheVariants as w
use Rattle.java_tree.specs.declared.tree.StmtForm.TheOpen as g
use Rattle.java_tree.specs.declared.tree.StmtForm.TheFolds.{fold-StmtForm, fold-Catch, fold-Group, fold_out-StmtForm, fold_out-Stmt, map-StmtForm}
use Rattle.java_tree.specs.Plain as t
use Rattle.java_tree.specs.View.{types, at_type, type_plain, at_form, at_node, plain, form_plain, plains, var_plain, stmt_form, stmt_node, catch_node, group_node, group_row, catch_row, stmt_plain, group_plain, catch_plain, stmts_plain}

-- a written type, by its parts
pub type_out : (x : TypeExpr) → type_plain x ≡ at_type (map-TypeExpr TypeExpr t.TypeExpr type_plain (out-TypeExpr x))
type_out x = fold_out-TypeExpr t.TypeExpr at_type x

pub type_written : (x : TypeExpr) (n : Node) (h : Head) (s : Span) (args : List TypeExpr) (d : ℕ) → out-TypeExpr x ≡ record { node = n; head = h; head_span = s; args = args; dims = d }
    → type_plain x ≡ t.Written n h s (types (map type_plain args)) d
type_written x n h s args d e = type_out x ∙ ap (λ L. at_type (map-TypeExpr TypeExpr t.TypeExpr type_plain L)) e

pub type_rolled : (n : Node) (h : Head) (s : Span) (args : List TypeExpr) (d : ℕ)
    → type_plain (roll-TypeExpr (record { node = n; head = h; head_span = s; args = args; dims = d })) ≡ t.Written n h s (types (map type_plain args)) d
type_rolled n h s args d = type_written _ n h s args d (out-roll-TypeExpr _)

-- one level of the view
abbrev plain_level : f.ExprForm-F ExprForm Expr → Node → t.Expr
plain_level L = at_form (map-ExprForm ExprForm Expr (Node → t.Expr) t.Expr (fold-ExprForm (Node → t.Expr) t.Expr at_form at_node) plain L)

pub plain_out : (x : Expr) → plain x ≡ plain_level (out-ExprForm x.form) x.node
plain_out x = fold_out-Expr (Node → t.Expr) t.Expr at_form at_node x ∙ ap (λ z. z x.node) (fold_out-ExprForm (Node → t.Expr) t.Expr at_form at_node x.form)

plain_by : (x : Expr) (L : f.ExprForm-F ExprForm Expr) → out-ExprForm x.form ≡ L → plain x ≡ plain_level L x.node
plain_by x L e = plain_out x ∙ ap (λ L. plain_level L x.node) e

pub plain_number : (x : Expr) (k : ℕ) (d l : Bool) → x.form ≡ v.Number k d l → plain x ≡ t.Number x.node k d l
plain_number x k d l e = plain_by x (f.Number k d l) (ap out-ExprForm e ∙ v.outs-Number k d l)

pub plain_char : (x : Expr) (k : ℕ) → x.form ≡ v.Char k → plain x ≡ t.Char x.node k
plain_char x k e = plain_by x (f.Char k) (ap out-ExprForm e ∙ v.outs-Char k)

pub plain_text : (x : Expr) (a : List ℕ) → x.form ≡ v.Text a → plain x ≡ t.Text x.node a
plain_text x a e = plain_by x (f.Text a) (ap out-ExprForm e ∙ v.outs-Text a)

pub plain_truth : (x : Expr) (b : Bool) → x.form ≡ v.Bool b → plain x ≡ t.Truth x.node b
plain_truth x b e = plain_by x (f.Bool b) (ap out-ExprForm e ∙ v.outs-Bool b)

pub plain_null : (x : Expr) → x.form ≡ v.Null → plain x ≡ t.Null x.node
plain_null x e = plain_by x f.Null (ap out-ExprForm e ∙ v.outs-Null)

pub plain_this : (x : Expr) → x.form ≡ v.This → plain x ≡ t.This x.node
plain_this x e = plain_by x f.This (ap out-ExprForm e ∙ v.outs-This)

pub plain_name : (x : Expr) (n : Name) → x.form ≡ v.Name n → plain x ≡ t.Name x.node n
plain_name x n e = plain_by x (f.Name n) (ap out-ExprForm e ∙ v.outs-Name n)

pub plain_field : (x of : Expr) (n : Name) → x.form ≡ v.Field of n → plain x ≡ t.Field x.node (plain of) n
plain_field x of n e = plain_by x (f.Field of n) (ap out-ExprForm e ∙ v.outs-Field of n)

pub plain_super_field : (x : Expr) (n : Name) → x.form ≡ v.SuperField n → plain x ≡ t.SuperField x.node n
plain_super_field x n e = plain_by x (f.SuperField n) (ap out-ExprForm e ∙ v.outs-SuperField n)

pub plain_index : (x of i : Expr) → x.form ≡ v.Index of i → plain x ≡ t.Index x.node (plain of) (plain i)
plain_index x of i e = plain_by x (f.Index of i) (ap out-ExprForm e ∙ v.outs-Index of i)

pub plain_call : (x : Expr) (n : Name) (xs : List Expr) → x.form ≡ v.Call None n xs → plain x ≡ t.Call x.node t.NoExpr n (plains xs)
plain_call x n xs e = plain_by x (f.Call None n xs) (ap out-ExprForm e ∙ v.outs-Call None n xs)

pub plain_call_on : (x of : Expr) (n : Name) (xs : List Expr) → x.form ≡ v.Call (Some of) n xs → plain x ≡ t.Call x.node (t.AnExpr (plain of)) n (plains xs)
plain_call_on x of n xs e = plain_by x (f.Call (Some of) n xs) (ap out-ExprForm e ∙ v.outs-Call (Some of) n xs)

-- The same at a tree that code builds: `search` does not open the view at an option by itself.
pub made_call_on : (n : Node) (of : Expr) (f : Name) (xs : List Expr) → plain (record { node = n; form = v.Call (Some of) f xs }) ≡ t.Call n (t.AnExpr (plain of)) f (plains xs)
made_call_on n of f xs = plain_call_on _ of f xs refl

pub form_call_on : (n : Node) (of : Expr) (f : Name) (xs : List Expr) → form_plain (v.Call (Some of) f xs) n ≡ t.Call n (t.AnExpr (plain of)) f (plains xs)
form_call_on n of f xs =
    ap (λ z. z n) (fold_out-ExprForm (Node → t.Expr) t.Expr at_form at_node (v.Call (Some of) f xs)) ∙ ap (λ L. plain_level L n) (v.outs-Call (Some of) f xs)

pub plain_super_method : (x : Expr) (n : Name) (xs : List Expr) → x.form ≡ v.SuperMethod n xs → plain x ≡ t.SuperMethod x.node n (plains xs)
plain_super_method x n xs e = plain_by x (f.SuperMethod n xs) (ap out-ExprForm e ∙ v.outs-SuperMethod n xs)

pub plain_new : (x : Expr) (ty : TypeExpr) (xs : List Expr) → x.form ≡ v.New ty xs → plain x ≡ t.New x.node (type_plain ty) (plains xs)
plain_new x ty xs e = plain_by x (f.New ty xs) (ap out-ExprForm e ∙ v.outs-New ty xs)

pub plain_new_array : (x : Expr) (ty : TypeExpr) (xs : List Expr) (k : ℕ) → x.form ≡ v.NewArray ty xs k → plain x ≡ t.NewArray x.node (type_plain ty) (plains xs) k
plain_new_array x ty xs k e = plain_by x (f.NewArray ty xs k) (ap out-ExprForm e ∙ v.outs-NewArray ty xs k)

pub plain_new_filled : (x : Expr) (ty : TypeExpr) (y : Expr) → x.form ≡ v.NewFilled ty y → plain x ≡ t.NewFilled x.node (type_plain ty) (plain y)
plain_new_filled x ty y e = plain_by x (f.NewFilled ty y) (ap out-ExprForm e ∙ v.outs-NewFilled ty y)

pub plain_items : (x : Expr) (xs : List Expr) → x.form ≡ v.Items xs → plain x ≡ t.Items x.node (plains xs)
plain_items x xs e = plain_by x (f.Items xs) (ap out-ExprForm e ∙ v.outs-Items xs)

pub plain_paren : (x y : Expr) → x.form ≡ v.Paren y → plain x ≡ t.Paren x.node (plain y)
plain_paren x y e = plain_by x (f.Paren y) (ap out-ExprForm e ∙ v.outs-Paren y)

pub plain_unary : (x y : Expr) (op : UnOp) → x.form ≡ v.Unary op y → plain x ≡ t.Unary x.node op (plain y)
plain_unary x y op e = plain_by x (f.Unary op y) (ap out-ExprForm e ∙ v.outs-Unary op y)

pub plain_step : (x y : Expr) (up before : Bool) → x.form ≡ v.Step up before y → plain x ≡ t.Step x.node up before (plain y)
plain_step x y up before e = plain_by x (f.Step up before y) (ap out-ExprForm e ∙ v.outs-Step up before y)

pub plain_cast : (x y : Expr) (ty : TypeExpr) (c : ℕ) → x.form ≡ v.Cast ty c y → plain x ≡ t.Cast x.node (type_plain ty) c (plain y)
plain_cast x y ty c e = plain_by x (f.Cast ty c y) (ap out-ExprForm e ∙ v.outs-Cast ty c y)

pub plain_binary : (x a b : Expr) (op : BinOp) → x.form ≡ v.Binary op a b → plain x ≡ t.Binary x.node op (plain a) (plain b)
plain_binary x a b op e = plain_by x (f.Binary op a b) (ap out-ExprForm e ∙ v.outs-Binary op a b)

pub plain_instance_of : (x y : Expr) (ty : TypeExpr) → x.form ≡ v.InstanceOf y ty → plain x ≡ t.InstanceOf x.node (plain y) (type_plain ty)
plain_instance_of x y ty e = plain_by x (f.InstanceOf y ty) (ap out-ExprForm e ∙ v.outs-InstanceOf y ty)

pub plain_cond : (x a b c : Expr) → x.form ≡ v.Cond a b c → plain x ≡ t.Cond x.node (plain a) (plain b) (plain c)
plain_cond x a b c e = plain_by x (f.Cond a b c) (ap out-ExprForm e ∙ v.outs-Cond a b c)

pub plain_assign : (x a b : Expr) (op : Option BinOp) → x.form ≡ v.Assign op a b → plain x ≡ t.Assign x.node op (plain a) (plain b)
plain_assign x a b op e = plain_by x (f.Assign op a b) (ap out-ExprForm e ∙ v.outs-Assign op a b)

-- one level of the view of a statement
abbrev stmt_level : g.StmtForm-F StmtForm Catch Group Stmt → Node → t.Stmt
stmt_level L = stmt_form (map-StmtForm StmtForm Catch Group Stmt (Node → t.Stmt) t.Catch t.Group t.Stmt
    (fold-StmtForm (Node → t.Stmt) t.Catch t.Group t.Stmt stmt_form catch_node group_node stmt_node)
    (fold-Catch (Node → t.Stmt) t.Catch t.Group t.Stmt stmt_form catch_node group_node stmt_node)
    (fold-Group (Node → t.Stmt) t.Catch t.Group t.Stmt stmt_form catch_node group_node stmt_node) stmt_plain L)

pub stmt_out : (x : Stmt) → stmt_plain x ≡ stmt_level (out-StmtForm x.form) x.node
stmt_out x = fold_out-Stmt (Node → t.Stmt) t.Catch t.Group t.Stmt stmt_form catch_node group_node stmt_node x
    ∙ ap (λ z. z x.node) (fold_out-StmtForm (Node → t.Stmt) t.Catch t.Group t.Stmt stmt_form catch_node group_node stmt_node x.form)

stmt_by : (x : Stmt) (L : g.StmtForm-F StmtForm Catch Group Stmt) → out-StmtForm x.form ≡ L → stmt_plain x ≡ stmt_level L x.node
stmt_by x L e = stmt_out x ∙ ap (λ L. stmt_level L x.node) e

pub plain_block : (x : Stmt) (xs : List Stmt) → x.form ≡ w.Block xs → stmt_plain x ≡ t.Block x.node (stmts_plain xs)
plain_block x xs e = stmt_by x (g.Block xs) (ap out-StmtForm e ∙ w.outs-Block xs)

pub plain_local : (x : Stmt) (b : Bool) (ty : TypeExpr) (xs : List Var) → x.form ≡ w.Local b ty xs → stmt_plain x ≡ t.Local x.node b (type_plain ty) (map var_plain xs)
plain_local x b ty xs e = stmt_by x (g.Local b ty xs) (ap out-StmtForm e ∙ w.outs-Local b ty xs)

pub plain_value : (x : Stmt) (a : Expr) → x.form ≡ w.Value a → stmt_plain x ≡ t.Value x.node (plain a)
plain_value x a e = stmt_by x (g.Value a) (ap out-StmtForm e ∙ w.outs-Value a)

pub plain_empty : (x : Stmt) → x.form ≡ w.Empty → stmt_plain x ≡ t.Empty x.node
plain_empty x e = stmt_by x g.Empty (ap out-StmtForm e ∙ w.outs-Empty)

pub plain_if : (x y : Stmt) (a : Expr) → x.form ≡ w.If a y None → stmt_plain x ≡ t.If x.node (plain a) (stmt_plain y) t.NoStmt
plain_if x y a e = stmt_by x (g.If a y None) (ap out-StmtForm e ∙ w.outs-If a y None)

pub plain_if_else : (x y z : Stmt) (a : Expr) → x.form ≡ w.If a y (Some z) → stmt_plain x ≡ t.If x.node (plain a) (stmt_plain y) (t.AStmt (stmt_plain z))
plain_if_else x y z a e = stmt_by x (g.If a y (Some z)) (ap out-StmtForm e ∙ w.outs-If a y (Some z))

pub plain_while : (x y : Stmt) (a : Expr) → x.form ≡ w.While a y → stmt_plain x ≡ t.While x.node (plain a) (stmt_plain y)
plain_while x y a e = stmt_by x (g.While a y) (ap out-StmtForm e ∙ w.outs-While a y)

pub plain_do : (x y : Stmt) (a : Expr) → x.form ≡ w.Do y a → stmt_plain x ≡ t.Do x.node (stmt_plain y) (plain a)
plain_do x y a e = stmt_by x (g.Do y a) (ap out-StmtForm e ∙ w.outs-Do y a)

pub plain_for : (x y : Stmt) (xs : List Stmt) (a : Option Expr) (ys : List Expr) → x.form ≡ w.For xs a ys y
    → stmt_plain x ≡ t.For x.node (stmts_plain xs) (option_map plain a) (plains ys) (stmt_plain y)
plain_for x y xs a ys e = stmt_by x (g.For xs a ys y) (ap out-StmtForm e ∙ w.outs-For xs a ys y)

pub plain_for_each : (x y : Stmt) (b : Bool) (ty : TypeExpr) (n : Name) (a : Expr) → x.form ≡ w.ForEach b ty n a y
    → stmt_plain x ≡ t.ForEach x.node b (type_plain ty) n (plain a) (stmt_plain y)
plain_for_each x y b ty n a e = stmt_by x (g.ForEach b ty n a y) (ap out-StmtForm e ∙ w.outs-ForEach b ty n a y)

pub plain_switch : (x : Stmt) (a : Expr) (gs : List Group) → x.form ≡ w.Switch a gs → stmt_plain x ≡ t.Switch x.node (plain a) (group_row (map group_plain gs))
plain_switch x a gs e = stmt_by x (g.Switch a gs) (ap out-StmtForm e ∙ w.outs-Switch a gs)

pub plain_break : (x : Stmt) → x.form ≡ w.Break → stmt_plain x ≡ t.Break x.node
plain_break x e = stmt_by x g.Break (ap out-StmtForm e ∙ w.outs-Break)

pub plain_continue : (x : Stmt) → x.form ≡ w.Continue → stmt_plain x ≡ t.Continue x.node
plain_continue x e = stmt_by x g.Continue (ap out-StmtForm e ∙ w.outs-Continue)

pub plain_return : (x : Stmt) (a : Option Expr) → x.form ≡ w.Return a → stmt_plain x ≡ t.Return x.node (option_map plain a)
plain_return x a e = stmt_by x (g.Return a) (ap out-StmtForm e ∙ w.outs-Return a)

pub plain_throw : (x : Stmt) (a : Expr) → x.form ≡ w.Throw a → stmt_plain x ≡ t.Throw x.node (plain a)
plain_throw x a e = stmt_by x (g.Throw a) (ap out-StmtForm e ∙ w.outs-Throw a)

pub plain_try : (x y : Stmt) (cs : List Catch) → x.form ≡ w.Try y cs None → stmt_plain x ≡ t.Try x.node (stmt_plain y) (catch_row (map catch_plain cs)) t.NoStmt
plain_try x y cs e = stmt_by x (g.Try y cs None) (ap out-StmtForm e ∙ w.outs-Try y cs None)

pub plain_try_finally : (x y z : Stmt) (cs : List Catch) → x.form ≡ w.Try y cs (Some z)
    → stmt_plain x ≡ t.Try x.node (stmt_plain y) (catch_row (map catch_plain cs)) (t.AStmt (stmt_plain z))
plain_try_finally x y z cs e = stmt_by x (g.Try y cs (Some z)) (ap out-StmtForm e ∙ w.outs-Try y cs (Some z))

pub plain_this_call : (x : Stmt) (xs : List Expr) → x.form ≡ w.ThisCall xs → stmt_plain x ≡ t.ThisCall x.node (plains xs)
plain_this_call x xs e = stmt_by x (g.ThisCall xs) (ap out-StmtForm e ∙ w.outs-ThisCall xs)

pub plain_super_call : (x : Stmt) (xs : List Expr) → x.form ≡ w.SuperCall xs → stmt_plain x ≡ t.SuperCall x.node (plains xs)
plain_super_call x xs e = stmt_by x (g.SuperCall xs) (ap out-StmtForm e ∙ w.outs-SuperCall xs)
