-- An item of a list of trees is smaller than the list.
use Rattle.std.proofs.Common.{◌≡◌, ℕ, ◌<◌, ◌≤◌, List, length, map, get_or, refl}
use Rattle.java_tree.specs.declared.tree.TypeExpr.{TypeExpr}
use Rattle.java_tree.specs.declared.tree.Expr.{Expr}
use Rattle.java_tree.specs.declared.tree.Stmt.{Stmt}
use Rattle.java_tree.specs.declared.tree.Group.{Group}
use Rattle.java_tree.specs.declared.tree.Catch.{Catch}
use Rattle.java_tree.specs.View as view
use Rattle.java_tree.specs.View.{type_plain, plain, plains, stmt_plain, stmts_plain, group_plain, group_row, catch_plain, catch_row}
use Rattle.tree_numbers.specs.Sizes as size
use Rattle.decl_rules.proofs.Steps.{size_in}

pub type_in : (xs : List TypeExpr) (i : ℕ) (x : TypeExpr) → i < length xs → x ≡ get_or xs i x → size.type (type_plain x) ≤ size.types (view.types (map type_plain xs))
type_in xs i x h e = size_in (λ xs. size.types (view.types (map type_plain xs))) (λ x. size.type (type_plain x)) xs i x (λ x xs. refl) h e

pub expr_in : (xs : List Expr) (i : ℕ) (x : Expr) → i < length xs → x ≡ get_or xs i x → size.expr (plain x) ≤ size.exprs (plains xs)
expr_in xs i x h e = size_in (λ xs. size.exprs (plains xs)) (λ x. size.expr (plain x)) xs i x (λ x xs. refl) h e

pub stmt_in : (xs : List Stmt) (i : ℕ) (x : Stmt) → i < length xs → x ≡ get_or xs i x → size.stmt (stmt_plain x) ≤ size.stmts (stmts_plain xs)
stmt_in xs i x h e = size_in (λ xs. size.stmts (stmts_plain xs)) (λ x. size.stmt (stmt_plain x)) xs i x (λ x xs. refl) h e

pub group_in : (xs : List Group) (i : ℕ) (x : Group) → i < length xs → x ≡ get_or xs i x → size.group (group_plain x) ≤ size.groups (group_row (map group_plain xs))
group_in xs i x h e = size_in (λ xs. size.groups (group_row (map group_plain xs))) (λ x. size.group (group_plain x)) xs i x (λ x xs. refl) h e

pub catch_in : (xs : List Catch) (i : ℕ) (x : Catch) → i < length xs → x ≡ get_or xs i x → size.catch (catch_plain x) ≤ size.catches (catch_row (map catch_plain xs))
catch_in xs i x h e = size_in (λ xs. size.catches (catch_row (map catch_plain xs))) (λ x. size.catch (catch_plain x)) xs i x (λ x xs. refl) h e
