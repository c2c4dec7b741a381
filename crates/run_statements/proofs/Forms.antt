-- Statements, by their parts.
use Rattle.std.proofs.Common.{◌≡◌, ap, ◌∙◌}
use Rattle.java_tree.specs.declared.tree.Node.{Node}
use Rattle.java_core.specs.declared.stmt.CoreStmt.{CoreStmt}
use Rattle.java_core.specs.declared.stmt.CoreStmtForm.{CoreStmtForm, out-CoreStmtForm}
use Rattle.java_core.specs.declared.stmt.CoreStmtForm.TheOpen as o
use Rattle.java_core.specs.declared.stmt.CoreGroup.{CoreGroup, out-CoreGroup}
use Rattle.java_core.specs.declared.stmt.CoreCatch.{CoreCatch}
use Rattle.java_core.specs.declared.stmt.CoreStmtForm.TheFolds.{fold_out-CoreStmtForm, fold_out-CoreStmt, fold_out-CoreGroup, map-CoreStmtForm}
use Rattle.java_core.specs.Plain as p
use Rattle.java_core.specs.View.{catch_node, catch_plain, group_node, group_plain, stmt_form, stmt_form_plain, stmt_node, stmt_plain, stmts_plain}

pub stmt_at : (x : CoreStmt) → stmt_plain x ≡ stmt_form_plain x.form x.node
stmt_at x = fold_out-CoreStmt (Node → p.Stmt) p.Catch p.Group p.Stmt stmt_form catch_node group_node stmt_node x

abbrev pub stmt_level : o.CoreStmtForm-F CoreStmtForm CoreCatch CoreGroup CoreStmt → Node → p.Stmt
stmt_level L = stmt_form (map-CoreStmtForm CoreStmtForm CoreCatch CoreGroup CoreStmt (Node → p.Stmt) p.Catch p.Group p.Stmt stmt_form_plain catch_plain group_plain stmt_plain L)

pub stmt_shaped : (x : CoreStmt) (y : CoreStmtForm) (L : o.CoreStmtForm-F CoreStmtForm CoreCatch CoreGroup CoreStmt) → x.form ≡ y → out-CoreStmtForm y ≡ L → stmt_plain x ≡ stmt_level L x.node
stmt_shaped x y L is out =
    stmt_at x ∙ ap (λ z. stmt_form_plain z x.node) is
    ∙ ap (λ z. z x.node) (fold_out-CoreStmtForm (Node → p.Stmt) p.Catch p.Group p.Stmt stmt_form catch_node group_node stmt_node y)
    ∙ ap (λ L. stmt_level L x.node) out

pub group_at : (x : CoreGroup) → group_plain x ≡ p.Labelled (out-CoreGroup x).node (out-CoreGroup x).labels (stmts_plain (out-CoreGroup x).body)
group_at x = fold_out-CoreGroup (Node → p.Stmt) p.Catch p.Group p.Stmt stmt_form catch_node group_node stmt_node x
