-- Lists of trees, numbered item by item.
use Rattle.std.specs.Option.{option_map}
use Rattle.std.proofs.Common.{◌≡◌, ◌≤◌, ℕ, ◌+◌, List, [], ◌∷◌, Option, Some, length, map, slice_get, slice_set, refl, ap, ◌∙◌, sym}
use Rattle.java_tree.specs.declared.tree.TypeExpr.{TypeExpr, roll-TypeExpr, out-TypeExpr}
use Rattle.java_tree.specs.declared.tree.Expr.{Expr}
use Rattle.java_tree.specs.declared.tree.Var.{Var}
use Rattle.java_tree.specs.declared.tree.Stmt.{Stmt}
use Rattle.java_tree.specs.declared.tree.Group.{Group}
use Rattle.java_tree.specs.declared.tree.Catch.{Catch}
use Rattle.java_tree.specs.Plain as t
use Rattle.java_tree.specs.View as view
use Rattle.java_tree.specs.View.{type_plain, plain, var_plain, stmt_plain, group_plain, catch_plain}
use Rattle.java_tree.proofs.Views.{type_rolled, type_out}
use Rattle.tree_numbers.specs.Numbers as numbers
use Rattle.tree_numbers.specs.Sizes as size
use Rattle.tree_numbers.proofs.Lists.{each, total, Walk, walk_at, walk_goes_on, walk_ends}
use Rattle.tree_numbers.proofs.Counts as counts

-- ---- types

abbrev pub type_number : TypeExpr → ℕ → t.TypeExpr × ℕ
type_number x = numbers.type (type_plain x)

abbrev pub type_size : TypeExpr → ℕ
type_size x = size.type (type_plain x)

each_type : (xs : List TypeExpr) (k : ℕ) → numbers.types (view.types (map type_plain xs)) k ≡ (view.types (each type_number xs k).0, (each type_number xs k).1)
each_type [] k = refl
each_type (x ∷ xs) k = ap (λ r. (t.AndType (type_number x k).0 r.0, r.1)) (each_type xs (type_number x k).1)

total_types : (xs : List TypeExpr) → size.types (view.types (map type_plain xs)) ≡ total type_size xs
total_types [] = refl
total_types (x ∷ xs) = ap (λ n. type_size x + n) (total_types xs)

abbrev pub TypesWalk : ℕ → List TypeExpr → ℕ → List TypeExpr → ℕ → Type 0
TypesWalk = Walk type_plain type_number type_size

pub type_at : (first : ℕ) (old : List TypeExpr) (i : ℕ) (xs : List TypeExpr) (next : ℕ) (x : TypeExpr) → TypesWalk first old i xs next → slice_get xs i ≡ Some x
    → (next + type_size x ≤ first + size.types (view.types (map type_plain old))) × (type_size x ≤ size.types (view.types (map type_plain old)))
type_at first old i xs next x w g = rw (total_types old) (walk_at _ _ _ first old i xs next x w g)

pub types_go_on : (first : ℕ) (old : List TypeExpr) (i : ℕ) (xs : List TypeExpr) (next : ℕ) (x y : TypeExpr) (m : ℕ)
    → TypesWalk first old i xs next → slice_get xs i ≡ Some x → (type_plain y, m) ≡ type_number x next → TypesWalk first old (i + 1) (slice_set xs i y) m
types_go_on first old i xs next x y m w g e = walk_goes_on _ _ _ first old i xs next x y m w g e (counts.type_count (type_plain x) next)

pub types_end : (first : ℕ) (old : List TypeExpr) (i : ℕ) (xs : List TypeExpr) (next : ℕ) → TypesWalk first old i xs next → length old ≤ i
    → ((view.types (map type_plain xs)), next) ≡ numbers.types (view.types (map type_plain old)) first
types_end first old i xs next w past = ap (λ r. (view.types r.0, r.1)) (walk_ends _ _ _ first old i xs next w past) ∙ sym (each_type old first)

pub types_counted : (first : ℕ) (old : List TypeExpr) (i : ℕ) (xs : List TypeExpr) (next : ℕ) → TypesWalk first old i xs next → length old ≤ i
    → next ≡ first + size.types (view.types (map type_plain old))
types_counted first old i xs next w past = ap (λ r. r.1) (types_end first old i xs next w past) ∙ counts.types_count (view.types (map type_plain old)) first

pub type_done : (x : TypeExpr) (k : ℕ) (xs : List TypeExpr) (m : ℕ) → (view.types (map type_plain xs), m) ≡ numbers.types (view.types (map type_plain (out-TypeExpr x).args)) (k + 1)
    → (type_plain (roll-TypeExpr (record (out-TypeExpr x) { node = numbers.at k (out-TypeExpr x).node; args = xs })), m) ≡ numbers.type (type_plain x) k
type_done x k xs m e =
    let r = out-TypeExpr x in
    rw (type_out x, type_rolled (numbers.at k r.node) r.head r.head_span xs r.dims) (ap (λ p. (t.Written (numbers.at k r.node) r.head r.head_span p.0 r.dims, p.1)) e)

-- ---- expressions

abbrev pub expr_number : Expr → ℕ → t.Expr × ℕ
expr_number x = numbers.expr (plain x)

abbrev pub expr_size : Expr → ℕ
expr_size x = size.expr (plain x)

each_expr : (xs : List Expr) (k : ℕ) → numbers.exprs (view.row (map plain xs)) k ≡ (view.row (each expr_number xs k).0, (each expr_number xs k).1)
each_expr [] k = refl
each_expr (x ∷ xs) k = ap (λ r. (t.Also (expr_number x k).0 r.0, r.1)) (each_expr xs (expr_number x k).1)

total_exprs : (xs : List Expr) → size.exprs (view.row (map plain xs)) ≡ total expr_size xs
total_exprs [] = refl
total_exprs (x ∷ xs) = ap (λ n. expr_size x + n) (total_exprs xs)

abbrev pub ExprsWalk : ℕ → List Expr → ℕ → List Expr → ℕ → Type 0
ExprsWalk = Walk plain expr_number expr_size

pub expr_at : (first : ℕ) (old : List Expr) (i : ℕ) (xs : List Expr) (next : ℕ) (x : Expr) → ExprsWalk first old i xs next → slice_get xs i ≡ Some x
    → (next + expr_size x ≤ first + size.exprs (view.row (map plain old))) × (expr_size x ≤ size.exprs (view.row (map plain old)))
expr_at first old i xs next x w g = rw (total_exprs old) (walk_at _ _ _ first old i xs next x w g)

pub exprs_go_on : (first : ℕ) (old : List Expr) (i : ℕ) (xs : List Expr) (next : ℕ) (x y : Expr) (m : ℕ)
    → ExprsWalk first old i xs next → slice_get xs i ≡ Some x → (plain y, m) ≡ expr_number x next → ExprsWalk first old (i + 1) (slice_set xs i y) m
exprs_go_on first old i xs next x y m w g e = walk_goes_on _ _ _ first old i xs next x y m w g e (counts.expr_count (plain x) next)

pub exprs_end : (first : ℕ) (old : List Expr) (i : ℕ) (xs : List Expr) (next : ℕ) → ExprsWalk first old i xs next → length old ≤ i
    → ((view.row (map plain xs)), next) ≡ numbers.exprs (view.row (map plain old)) first
exprs_end first old i xs next w past = ap (λ r. (view.row r.0, r.1)) (walk_ends _ _ _ first old i xs next w past) ∙ sym (each_expr old first)

pub exprs_counted : (first : ℕ) (old : List Expr) (i : ℕ) (xs : List Expr) (next : ℕ) → ExprsWalk first old i xs next → length old ≤ i
    → next ≡ first + size.exprs (view.row (map plain old))
exprs_counted first old i xs next w past = ap (λ r. r.1) (exprs_end first old i xs next w past) ∙ counts.exprs_count (view.row (map plain old)) first

-- ---- labels

abbrev pub label_number : (Option Expr) → ℕ → Option t.Expr × ℕ
label_number x = numbers.init (option_map plain x)

abbrev pub label_size : (Option Expr) → ℕ
label_size x = size.init (option_map plain x)

each_label : (xs : List (Option Expr)) (k : ℕ) → numbers.labels (map (option_map plain) xs) k ≡ ((each label_number xs k).0, (each label_number xs k).1)
each_label [] k = refl
each_label (x ∷ xs) k = ap (λ r. ((label_number x k).0 ∷ r.0, r.1)) (each_label xs (label_number x k).1)

total_labels : (xs : List (Option Expr)) → size.labels (map (option_map plain) xs) ≡ total label_size xs
total_labels [] = refl
total_labels (x ∷ xs) = ap (λ n. label_size x + n) (total_labels xs)

abbrev pub LabelsWalk : ℕ → List (Option Expr) → ℕ → List (Option Expr) → ℕ → Type 0
LabelsWalk = Walk (option_map plain) label_number label_size

pub label_at : (first : ℕ) (old : List (Option Expr)) (i : ℕ) (xs : List (Option Expr)) (next : ℕ) (x : (Option Expr)) → LabelsWalk first old i xs next → slice_get xs i ≡ Some x
    → (next + label_size x ≤ first + size.labels (map (option_map plain) old)) × (label_size x ≤ size.labels (map (option_map plain) old))
label_at first old i xs next x w g = rw (total_labels old) (walk_at _ _ _ first old i xs next x w g)

pub labels_go_on : (first : ℕ) (old : List (Option Expr)) (i : ℕ) (xs : List (Option Expr)) (next : ℕ) (x y : (Option Expr)) (m : ℕ)
    → LabelsWalk first old i xs next → slice_get xs i ≡ Some x → ((option_map plain) y, m) ≡ label_number x next → LabelsWalk first old (i + 1) (slice_set xs i y) m
labels_go_on first old i xs next x y m w g e = walk_goes_on _ _ _ first old i xs next x y m w g e (counts.init_count (option_map plain x) next)

pub labels_end : (first : ℕ) (old : List (Option Expr)) (i : ℕ) (xs : List (Option Expr)) (next : ℕ) → LabelsWalk first old i xs next → length old ≤ i
    → ((map (option_map plain) xs), next) ≡ numbers.labels (map (option_map plain) old) first
labels_end first old i xs next w past = ap (λ r. (r.0, r.1)) (walk_ends _ _ _ first old i xs next w past) ∙ sym (each_label old first)

pub labels_counted : (first : ℕ) (old : List (Option Expr)) (i : ℕ) (xs : List (Option Expr)) (next : ℕ) → LabelsWalk first old i xs next → length old ≤ i
    → next ≡ first + size.labels (map (option_map plain) old)
labels_counted first old i xs next w past = ap (λ r. r.1) (labels_end first old i xs next w past) ∙ counts.labels_count (map (option_map plain) old) first

-- ---- variables

abbrev pub var_number : Var → ℕ → t.Var × ℕ
var_number x = numbers.var (var_plain x)

abbrev pub var_size : Var → ℕ
var_size x = size.var (var_plain x)

each_var : (xs : List Var) (k : ℕ) → numbers.vars (map var_plain xs) k ≡ ((each var_number xs k).0, (each var_number xs k).1)
each_var [] k = refl
each_var (x ∷ xs) k = ap (λ r. ((var_number x k).0 ∷ r.0, r.1)) (each_var xs (var_number x k).1)

total_vars : (xs : List Var) → size.vars (map var_plain xs) ≡ total var_size xs
total_vars [] = refl
total_vars (x ∷ xs) = ap (λ n. var_size x + n) (total_vars xs)

abbrev pub VarsWalk : ℕ → List Var → ℕ → List Var → ℕ → Type 0
VarsWalk = Walk var_plain var_number var_size

pub var_at : (first : ℕ) (old : List Var) (i : ℕ) (xs : List Var) (next : ℕ) (x : Var) → VarsWalk first old i xs next → slice_get xs i ≡ Some x
    → (next + var_size x ≤ first + size.vars (map var_plain old)) × (var_size x ≤ size.vars (map var_plain old))
var_at first old i xs next x w g = rw (total_vars old) (walk_at _ _ _ first old i xs next x w g)

pub vars_go_on : (first : ℕ) (old : List Var) (i : ℕ) (xs : List Var) (next : ℕ) (x y : Var) (m : ℕ)
    → VarsWalk first old i xs next → slice_get xs i ≡ Some x → (var_plain y, m) ≡ var_number x next → VarsWalk first old (i + 1) (slice_set xs i y) m
vars_go_on first old i xs next x y m w g e = walk_goes_on _ _ _ first old i xs next x y m w g e (counts.var_count (var_plain x) next)

pub vars_end : (first : ℕ) (old : List Var) (i : ℕ) (xs : List Var) (next : ℕ) → VarsWalk first old i xs next → length old ≤ i
    → ((map var_plain xs), next) ≡ numbers.vars (map var_plain old) first
vars_end first old i xs next w past = ap (λ r. (r.0, r.1)) (walk_ends _ _ _ first old i xs next w past) ∙ sym (each_var old first)

pub vars_counted : (first : ℕ) (old : List Var) (i : ℕ) (xs : List Var) (next : ℕ) → VarsWalk first old i xs next → length old ≤ i
    → next ≡ first + size.vars (map var_plain old)
vars_counted first old i xs next w past = ap (λ r. r.1) (vars_end first old i xs next w past) ∙ counts.vars_count (map var_plain old) first

-- ---- statements

abbrev pub stmt_number : Stmt → ℕ → t.Stmt × ℕ
stmt_number x = numbers.stmt (stmt_plain x)

abbrev pub stmt_size : Stmt → ℕ
stmt_size x = size.stmt (stmt_plain x)

each_stmt : (xs : List Stmt) (k : ℕ) → numbers.stmts (view.stmt_row (map stmt_plain xs)) k ≡ (view.stmt_row (each stmt_number xs k).0, (each stmt_number xs k).1)
each_stmt [] k = refl
each_stmt (x ∷ xs) k = ap (λ r. (t.Then (stmt_number x k).0 r.0, r.1)) (each_stmt xs (stmt_number x k).1)

total_stmts : (xs : List Stmt) → size.stmts (view.stmt_row (map stmt_plain xs)) ≡ total stmt_size xs
total_stmts [] = refl
total_stmts (x ∷ xs) = ap (λ n. stmt_size x + n) (total_stmts xs)

abbrev pub StmtsWalk : ℕ → List Stmt → ℕ → List Stmt → ℕ → Type 0
StmtsWalk = Walk stmt_plain stmt_number stmt_size

pub stmt_at : (first : ℕ) (old : List Stmt) (i : ℕ) (xs : List Stmt) (next : ℕ) (x : Stmt) → StmtsWalk first old i xs next → slice_get xs i ≡ Some x
    → (next + stmt_size x ≤ first + size.stmts (view.stmt_row (map stmt_plain old))) × (stmt_size x ≤ size.stmts (view.stmt_row (map stmt_plain old)))
stmt_at first old i xs next x w g = rw (total_stmts old) (walk_at _ _ _ first old i xs next x w g)

pub stmts_go_on : (first : ℕ) (old : List Stmt) (i : ℕ) (xs : List Stmt) (next : ℕ) (x y : Stmt) (m : ℕ)
    → StmtsWalk first old i xs next → slice_get xs i ≡ Some x → (stmt_plain y, m) ≡ stmt_number x next → StmtsWalk first old (i + 1) (slice_set xs i y) m
stmts_go_on first old i xs next x y m w g e = walk_goes_on _ _ _ first old i xs next x y m w g e (counts.stmt_count (stmt_plain x) next)

pub stmts_end : (first : ℕ) (old : List Stmt) (i : ℕ) (xs : List Stmt) (next : ℕ) → StmtsWalk first old i xs next → length old ≤ i
    → ((view.stmt_row (map stmt_plain xs)), next) ≡ numbers.stmts (view.stmt_row (map stmt_plain old)) first
stmts_end first old i xs next w past = ap (λ r. (view.stmt_row r.0, r.1)) (walk_ends _ _ _ first old i xs next w past) ∙ sym (each_stmt old first)

pub stmts_counted : (first : ℕ) (old : List Stmt) (i : ℕ) (xs : List Stmt) (next : ℕ) → StmtsWalk first old i xs next → length old ≤ i
    → next ≡ first + size.stmts (view.stmt_row (map stmt_plain old))
stmts_counted first old i xs next w past = ap (λ r. r.1) (stmts_end first old i xs next w past) ∙ counts.stmts_count (view.stmt_row (map stmt_plain old)) first

-- ---- groups

abbrev pub group_number : Group → ℕ → t.Group × ℕ
group_number x = numbers.group (group_plain x)

abbrev pub group_size : Group → ℕ
group_size x = size.group (group_plain x)

each_group : (xs : List Group) (k : ℕ) → numbers.groups (view.group_row (map group_plain xs)) k ≡ (view.group_row (each group_number xs k).0, (each group_number xs k).1)
each_group [] k = refl
each_group (x ∷ xs) k = ap (λ r. (t.AndGroup (group_number x k).0 r.0, r.1)) (each_group xs (group_number x k).1)

total_groups : (xs : List Group) → size.groups (view.group_row (map group_plain xs)) ≡ total group_size xs
total_groups [] = refl
total_groups (x ∷ xs) = ap (λ n. group_size x + n) (total_groups xs)

abbrev pub GroupsWalk : ℕ → List Group → ℕ → List Group → ℕ → Type 0
GroupsWalk = Walk group_plain group_number group_size

pub group_at : (first : ℕ) (old : List Group) (i : ℕ) (xs : List Group) (next : ℕ) (x : Group) → GroupsWalk first old i xs next → slice_get xs i ≡ Some x
    → (next + group_size x ≤ first + size.groups (view.group_row (map group_plain old))) × (group_size x ≤ size.groups (view.group_row (map group_plain old)))
group_at first old i xs next x w g = rw (total_groups old) (walk_at _ _ _ first old i xs next x w g)

pub groups_go_on : (first : ℕ) (old : List Group) (i : ℕ) (xs : List Group) (next : ℕ) (x y : Group) (m : ℕ)
    → GroupsWalk first old i xs next → slice_get xs i ≡ Some x → (group_plain y, m) ≡ group_number x next → GroupsWalk first old (i + 1) (slice_set xs i y) m
groups_go_on first old i xs next x y m w g e = walk_goes_on _ _ _ first old i xs next x y m w g e (counts.group_count (group_plain x) next)

pub groups_end : (first : ℕ) (old : List Group) (i : ℕ) (xs : List Group) (next : ℕ) → GroupsWalk first old i xs next → length old ≤ i
    → ((view.group_row (map group_plain xs)), next) ≡ numbers.groups (view.group_row (map group_plain old)) first
groups_end first old i xs next w past = ap (λ r. (view.group_row r.0, r.1)) (walk_ends _ _ _ first old i xs next w past) ∙ sym (each_group old first)

pub groups_counted : (first : ℕ) (old : List Group) (i : ℕ) (xs : List Group) (next : ℕ) → GroupsWalk first old i xs next → length old ≤ i
    → next ≡ first + size.groups (view.group_row (map group_plain old))
groups_counted first old i xs next w past = ap (λ r. r.1) (groups_end first old i xs next w past) ∙ counts.groups_count (view.group_row (map group_plain old)) first

-- ---- catches

abbrev pub catch_number : Catch → ℕ → t.Catch × ℕ
catch_number x = numbers.catch (catch_plain x)

abbrev pub catch_size : Catch → ℕ
catch_size x = size.catch (catch_plain x)

each_catch : (xs : List Catch) (k : ℕ) → numbers.catches (view.catch_row (map catch_plain xs)) k ≡ (view.catch_row (each catch_number xs k).0, (each catch_number xs k).1)
each_catch [] k = refl
each_catch (x ∷ xs) k = ap (λ r. (t.AndCatch (catch_number x k).0 r.0, r.1)) (each_catch xs (catch_number x k).1)

total_catches : (xs : List Catch) → size.catches (view.catch_row (map catch_plain xs)) ≡ total catch_size xs
total_catches [] = refl
total_catches (x ∷ xs) = ap (λ n. catch_size x + n) (total_catches xs)

abbrev pub CatchesWalk : ℕ → List Catch → ℕ → List Catch → ℕ → Type 0
CatchesWalk = Walk catch_plain catch_number catch_size

pub catch_at : (first : ℕ) (old : List Catch) (i : ℕ) (xs : List Catch) (next : ℕ) (x : Catch) → CatchesWalk first old i xs next → slice_get xs i ≡ Some x
    → (next + catch_size x ≤ first + size.catches (view.catch_row (map catch_plain old))) × (catch_size x ≤ size.catches (view.catch_row (map catch_plain old)))
catch_at first old i xs next x w g = rw (total_catches old) (walk_at _ _ _ first old i xs next x w g)

pub catches_go_on : (first : ℕ) (old : List Catch) (i : ℕ) (xs : List Catch) (next : ℕ) (x y : Catch) (m : ℕ)
    → CatchesWalk first old i xs next → slice_get xs i ≡ Some x → (catch_plain y, m) ≡ catch_number x next → CatchesWalk first old (i + 1) (slice_set xs i y) m
catches_go_on first old i xs next x y m w g e = walk_goes_on _ _ _ first old i xs next x y m w g e (counts.catch_count (catch_plain x) next)

pub catches_end : (first : ℕ) (old : List Catch) (i : ℕ) (xs : List Catch) (next : ℕ) → CatchesWalk first old i xs next → length old ≤ i
    → ((view.catch_row (map catch_plain xs)), next) ≡ numbers.catches (view.catch_row (map catch_plain old)) first
catches_end first old i xs next w past = ap (λ r. (view.catch_row r.0, r.1)) (walk_ends _ _ _ first old i xs next w past) ∙ sym (each_catch old first)

pub catches_counted : (first : ℕ) (old : List Catch) (i : ℕ) (xs : List Catch) (next : ℕ) → CatchesWalk first old i xs next → length old ≤ i
    → next ≡ first + size.catches (view.catch_row (map catch_plain old))
catches_counted first old i xs next w past = ap (λ r. r.1) (catches_end first old i xs next w past) ∙ counts.catches_count (view.catch_row (map catch_plain old)) first
