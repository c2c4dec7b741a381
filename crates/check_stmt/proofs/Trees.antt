-- The view of the parts of a switch and of a try.
use Rattle.std.proofs.Common.{◌≡◌, map}
use Rattle.std.specs.Option.{option_map}
use Rattle.java_tree.specs.declared.tree.Node.{Node}
use Rattle.java_tree.specs.declared.tree.Group.{Group, out-Group}
use Rattle.java_tree.specs.declared.tree.Catch.{Catch, out-Catch}
use Rattle.java_tree.specs.declared.tree.StmtForm.TheFolds.{fold_out-Group, fold_out-Catch}
use Rattle.java_tree.specs.Plain as t
use Rattle.java_tree.specs.View.{plain, stmt_form, catch_node, group_node, stmt_node, stmt_plain, stmts_plain, group_plain, catch_plain, param_plain}

pub group_at : (x : Group) → group_plain x ≡ t.Labelled (out-Group x).node (map (option_map plain) (out-Group x).labels) (stmts_plain (out-Group x).body)
group_at x = fold_out-Group (Node → t.Stmt) t.Catch t.Group t.Stmt stmt_form catch_node group_node stmt_node x

pub catch_at : (x : Catch) → catch_plain x ≡ t.Caught (out-Catch x).node (param_plain (out-Catch x).param) (stmt_plain (out-Catch x).body)
catch_at x = fold_out-Catch (Node → t.Stmt) t.Catch t.Group t.Stmt stmt_form catch_node group_node stmt_node x
