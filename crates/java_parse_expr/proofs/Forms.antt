-- The view of forms with an option.
use Rattle.std.proofs.Common.{◌≡◌, List, Some, None, map, refl, sym, ◌∙◌}
use Rattle.java_tree.specs.declared.tree.Node.{Node}
use Rattle.java_tree.specs.declared.tree.Expr.{Expr}
use Rattle.java_tree.specs.declared.tree.Stmt.{Stmt}
use Rattle.java_tree.specs.declared.tree.Catch.{Catch}
use Rattle.java_tree.specs.declared.tree.StmtForm.{StmtForm}
use Rattle.java_tree.specs.declared.tree.StmtForm.TheVariants as w
use Rattle.java_tree.specs.declared.tree.StmtForm.TheFolds.{fold_out-Stmt}
use Rattle.java_tree.specs.Plain as t
use Rattle.java_tree.specs.View.{plain, stmt_form, stmt_node, catch_node, group_node, catch_row, stmt_plain, stmt_form_plain, catch_plain}
use Rattle.java_tree.proofs.Views.{plain_if_else, plain_try, plain_try_finally}

pub form_out : (x : StmtForm) (n : Node) → stmt_form_plain x n ≡ stmt_plain (record { node = n; form = x })
form_out x n = sym (fold_out-Stmt (Node → t.Stmt) t.Catch t.Group t.Stmt stmt_form catch_node group_node stmt_node (record { node = n; form = x }))

pub form_if_else : (n : Node) (y z : Stmt) (a : Expr) → stmt_form_plain (w.If a y (Some z)) n ≡ t.If n (plain a) (stmt_plain y) (t.AStmt (stmt_plain z))
form_if_else n y z a = form_out _ n ∙ plain_if_else (record { node = n; form = w.If a y (Some z) }) y z a refl

pub form_try : (n : Node) (y : Stmt) (cs : List Catch) → stmt_form_plain (w.Try y cs None) n ≡ t.Try n (stmt_plain y) (catch_row (map catch_plain cs)) t.NoStmt
form_try n y cs = form_out _ n ∙ plain_try (record { node = n; form = w.Try y cs None }) y cs refl

pub form_try_finally : (n : Node) (y z : Stmt) (cs : List Catch)
    → stmt_form_plain (w.Try y cs (Some z)) n ≡ t.Try n (stmt_plain y) (catch_row (map catch_plain cs)) (t.AStmt (stmt_plain z))
form_try_finally n y z cs = form_out _ n ∙ plain_try_finally (record { node = n; form = w.Try y cs (Some z) }) y z cs refl
