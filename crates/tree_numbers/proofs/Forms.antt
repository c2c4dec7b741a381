-- The view of forms with an option.
use Rattle.std.specs.Option.{option_map}
use Rattle.std.proofs.Common.{◌≡◌, List, Option, None, Some, map, refl}
use Rattle.java_tree.specs.declared.tree.Node.{Node}
use Rattle.java_tree.specs.declared.tree.Name.{Name}
use Rattle.java_tree.specs.declared.tree.Expr.{Expr}
use Rattle.java_tree.specs.declared.tree.ExprForm.TheVariants as v
use Rattle.java_tree.specs.declared.tree.Stmt.{Stmt}
use Rattle.java_tree.specs.declared.tree.Catch.{Catch}
use Rattle.java_tree.specs.declared.tree.StmtForm.TheVariants as w
use Rattle.java_tree.specs.Plain as t
use Rattle.java_tree.specs.View.{plain, plains, maybe, stmt_plain, stmt_maybe, catch_plain, catch_row}
use Rattle.java_tree.proofs.Views as views

pub plain_call : (x : Expr) (of : Option Expr) (n : Name) (xs : List Expr) → x.form ≡ v.Call of n xs → plain x ≡ t.Call x.node (maybe (option_map plain of)) n (plains xs)
plain_call x None n xs e = views.plain_call x n xs e
plain_call x (Some of) n xs e = views.plain_call_on x of n xs e

pub made_call : (k : Node) (of : Option Expr) (n : Name) (xs : List Expr) → plain (record { node = k; form = v.Call of n xs }) ≡ t.Call k (maybe (option_map plain of)) n (plains xs)
made_call k of n xs = plain_call (record { node = k; form = v.Call of n xs }) of n xs refl

pub plain_if : (x y : Stmt) (a : Expr) (z : Option Stmt) → x.form ≡ w.If a y z → stmt_plain x ≡ t.If x.node (plain a) (stmt_plain y) (stmt_maybe (option_map stmt_plain z))
plain_if x y a None e = views.plain_if x y a e
plain_if x y a (Some z) e = views.plain_if_else x y z a e

pub made_if : (k : Node) (a : Expr) (y : Stmt) (z : Option Stmt)
    → stmt_plain (record { node = k; form = w.If a y z }) ≡ t.If k (plain a) (stmt_plain y) (stmt_maybe (option_map stmt_plain z))
made_if k a y z = plain_if (record { node = k; form = w.If a y z }) y a z refl

pub plain_try : (x y : Stmt) (cs : List Catch) (z : Option Stmt) → x.form ≡ w.Try y cs z
    → stmt_plain x ≡ t.Try x.node (stmt_plain y) (catch_row (map catch_plain cs)) (stmt_maybe (option_map stmt_plain z))
plain_try x y cs None e = views.plain_try x y cs e
plain_try x y cs (Some z) e = views.plain_try_finally x y z cs e

pub made_try : (k : Node) (y : Stmt) (cs : List Catch) (z : Option Stmt)
    → stmt_plain (record { node = k; form = w.Try y cs z }) ≡ t.Try k (stmt_plain y) (catch_row (map catch_plain cs)) (stmt_maybe (option_map stmt_plain z))
made_try k y cs z = plain_try (record { node = k; form = w.Try y cs z }) y cs z refl
