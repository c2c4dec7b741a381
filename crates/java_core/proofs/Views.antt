-- The view, by its parts.
use Rattle.std.proofs.Common.{◌≡◌, ℕ, ℤ, Bool, List, Option, Some, None, map, refl, ap, ◌∙◌}
use Rattle.std.specs.Option.{option_map}
use Rattle.class_world.specs.declared.world.JavaType.{JavaType}
use Rattle.java_tree.specs.declared.tree.Node.{Node}
use Rattle.java_tree.specs.declared.tree.Span.{Span}
use Rattle.java_core.specs.declared.expr.Before.{Before}
use Rattle.java_core.specs.declared.written.CoreType.{CoreType, roll-CoreType, out-CoreType, out-roll-CoreType}
use Rattle.java_core.specs.declared.written.CoreType.TheFolds.{fold_out-CoreType, map-CoreType}
use Rattle.java_core.specs.declared.expr.CoreExpr.{CoreExpr}
use Rattle.java_core.specs.declared.expr.CoreForm.{CoreForm, out-CoreForm}
use Rattle.java_core.specs.declared.expr.CoreForm.TheVariants as v
use Rattle.java_core.specs.declared.expr.CoreForm.TheOpen as f
use Rattle.java_core.specs.declared.expr.CoreForm.TheFolds.{fold-CoreForm, fold_out-CoreForm, fold_out-CoreExpr, map-CoreForm}
use Rattle.java_core.specs.declared.stmt.CoreStmt.{CoreStmt}
use Rattle.java_core.specs.declared.stmt.CoreCatch.{CoreCatch}
use Rattle.java_core.specs.declared.stmt.CoreStmtForm.{CoreStmtForm, out-CoreStmtForm}
use Rattle.java_core.specs.declared.stmt.CoreStmtForm.TheVariants as w
use Rattle.java_core.specs.declared.stmt.CoreStmtForm.TheOpen as g
use Rattle.java_core.specs.Plain as p
use Rattle.java_core.specs.declared.stmt.CoreGroup.{CoreGroup}
use Rattle.java_core.specs.declared.stmt.CoreStmtForm.TheFolds.{fold_out-CoreStmtForm, fold_out-CoreStmt, map-CoreStmtForm}
use Rattle.java_core.specs.View.{type_row, at_type, written, row, maybe, at_form, at_node, plain, form_plain, plains, catch_row, stmt_form, catch_node, group_node, stmt_node, stmt_plain, stmt_form_plain, catch_plain, group_plain, stmts_plain}

-- a written type, by its parts
pub type_out : (x : CoreType) → written x ≡ at_type (map-CoreType CoreType p.Written written (out-CoreType x))
type_out x = fold_out-CoreType p.Written at_type x

pub type_rolled : (n : Node) (h : Span) (ty : JavaType) (args : List CoreType)
    → written (roll-CoreType (record { node = n; head = h; ty = ty; args = args })) ≡ p.AType n h ty (type_row (map written args))
type_rolled n h ty args = type_out _ ∙ ap (λ L. at_type (map-CoreType CoreType p.Written written L)) (out-roll-CoreType _)

-- an expression, by its parts
pub plain_at : (x : CoreExpr) → plain x ≡ p.At x.node x.ty (form_plain x.form)
plain_at x = fold_out-CoreExpr p.Form p.Expr at_form at_node x

abbrev form_level : f.CoreForm-F CoreForm CoreExpr → p.Form
form_level L = at_form (map-CoreForm CoreForm CoreExpr p.Form p.Expr form_plain plain L)

pub form_out : (x : CoreForm) → form_plain x ≡ form_level (out-CoreForm x)
form_out x = fold_out-CoreForm p.Form p.Expr at_form at_node x

form_by : (x : CoreForm) (L : f.CoreForm-F CoreForm CoreExpr) → out-CoreForm x ≡ L → form_plain x ≡ form_level L
form_by x L e = form_out x ∙ ap form_level e

-- forms that code builds, where an option is inside
pub static_field : (b : Before) (k : ℕ) → form_plain (v.StaticField b None k) ≡ p.StaticField b p.NoExpr k
static_field b k = form_by _ (f.StaticField b None k) (v.outs-StaticField b None k)

pub static_field_on : (b : Before) (x : CoreExpr) (k : ℕ) → form_plain (v.StaticField b (Some x) k) ≡ p.StaticField b (p.AnExpr (plain x)) k
static_field_on b x k = form_by _ (f.StaticField b (Some x) k) (v.outs-StaticField b (Some x) k)

pub static_call : (b : Before) (k : ℕ) (xs : List CoreExpr) → form_plain (v.StaticCall b None k xs) ≡ p.StaticCall b p.NoExpr k (plains xs)
static_call b k xs = form_by _ (f.StaticCall b None k xs) (v.outs-StaticCall b None k xs)

pub static_call_on : (b : Before) (x : CoreExpr) (k : ℕ) (xs : List CoreExpr) → form_plain (v.StaticCall b (Some x) k xs) ≡ p.StaticCall b (p.AnExpr (plain x)) k (plains xs)
static_call_on b x k xs = form_by _ (f.StaticCall b (Some x) k xs) (v.outs-StaticCall b (Some x) k xs)

-- statements that code builds, where an option is inside
abbrev stmt_level : g.CoreStmtForm-F CoreStmtForm CoreCatch CoreGroup CoreStmt → Node → p.Stmt
stmt_level L = stmt_form (map-CoreStmtForm CoreStmtForm CoreCatch CoreGroup CoreStmt (Node → p.Stmt) p.Catch p.Group p.Stmt stmt_form_plain catch_plain group_plain stmt_plain L)

pub stmt_out : (x : CoreStmt) → stmt_plain x ≡ stmt_level (out-CoreStmtForm x.form) x.node
stmt_out x = fold_out-CoreStmt (Node → p.Stmt) p.Catch p.Group p.Stmt stmt_form catch_node group_node stmt_node x
    ∙ ap (λ z. z x.node) (fold_out-CoreStmtForm (Node → p.Stmt) p.Catch p.Group p.Stmt stmt_form catch_node group_node stmt_node x.form)

stmt_by : (x : CoreStmt) (L : g.CoreStmtForm-F CoreStmtForm CoreCatch CoreGroup CoreStmt) → out-CoreStmtForm x.form ≡ L → stmt_plain x ≡ stmt_level L x.node
stmt_by x L e = stmt_out x ∙ ap (λ L. stmt_level L x.node) e

pub made_if : (n : Node) (x : CoreExpr) (y : CoreStmt) → stmt_plain (record { node = n; form = w.If x y None }) ≡ p.If n (plain x) (stmt_plain y) p.NoStmt
made_if n x y = stmt_by _ (g.If x y None) (w.outs-If x y None)

pub made_if_else : (n : Node) (x : CoreExpr) (y z : CoreStmt) → stmt_plain (record { node = n; form = w.If x y (Some z) }) ≡ p.If n (plain x) (stmt_plain y) (p.AStmt (stmt_plain z))
made_if_else n x y z = stmt_by _ (g.If x y (Some z)) (w.outs-If x y (Some z))

pub made_for : (n : Node) (xs : List CoreStmt) (x : CoreExpr) (ys : List CoreExpr) (y : CoreStmt)
    → stmt_plain (record { node = n; form = w.For xs (Some x) ys y }) ≡ p.For n (stmts_plain xs) (Some (plain x)) (plains ys) (stmt_plain y)
made_for n xs x ys y = stmt_by _ (g.For xs (Some x) ys y) (w.outs-For xs (Some x) ys y)

pub made_for_ever : (n : Node) (xs : List CoreStmt) (ys : List CoreExpr) (y : CoreStmt)
    → stmt_plain (record { node = n; form = w.For xs None ys y }) ≡ p.For n (stmts_plain xs) None (plains ys) (stmt_plain y)
made_for_ever n xs ys y = stmt_by _ (g.For xs None ys y) (w.outs-For xs None ys y)

pub made_return : (n : Node) (x : CoreExpr) → stmt_plain (record { node = n; form = w.Return (Some x) }) ≡ p.Return n (Some (plain x))
made_return n x = stmt_by _ (g.Return (Some x)) (w.outs-Return (Some x))

pub made_try : (n : Node) (y : CoreStmt) (cs : List CoreCatch) → stmt_plain (record { node = n; form = w.Try y cs None }) ≡ p.Try n (stmt_plain y) (catch_row (map catch_plain cs)) p.NoStmt
made_try n y cs = stmt_by _ (g.Try y cs None) (w.outs-Try y cs None)

pub made_try_finally : (n : Node) (y z : CoreStmt) (cs : List CoreCatch)
    → stmt_plain (record { node = n; form = w.Try y cs (Some z) }) ≡ p.Try n (stmt_plain y) (catch_row (map catch_plain cs)) (p.AStmt (stmt_plain z))
made_try_finally n y z cs = stmt_by _ (g.Try y cs (Some z)) (w.outs-Try y cs (Some z))

pub made_return_void : (n : Node) → stmt_plain (record { node = n; form = w.Return None }) ≡ p.Return n None
made_return_void n = stmt_by _ (g.Return None) (w.outs-Return None)
