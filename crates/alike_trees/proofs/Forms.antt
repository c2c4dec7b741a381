-- Expressions and statements are alike to others where their parts are, form by form.
use Rattle.std.proofs.Common.{◌≡◌, ℕ, List, Option, Some, None, Result, Ok, Err, map, refl, sym, ap, ◌∙◌, subst}
use Rattle.std.specs.Prelude.{◌↔◌}
use Rattle.std.specs.Option.{option_map}
use Rattle.java_tree.specs.declared.tree.Node.{Node}
use Rattle.java_core.specs.declared.expr.Before.{Before}
use Rattle.java_core.specs.declared.expr.CoreExpr.{CoreExpr}
use Rattle.java_core.specs.declared.expr.CoreForm.{CoreForm, out-CoreForm}
use Rattle.java_core.specs.declared.expr.CoreForm.TheOpen as f
use Rattle.java_core.specs.declared.expr.CoreForm.TheFolds.{map-CoreForm}
use Rattle.java_core.specs.declared.stmt.CoreStmt.{CoreStmt}
use Rattle.java_core.specs.declared.stmt.CoreCatch.{CoreCatch}
use Rattle.java_core.specs.declared.stmt.CoreGroup.{CoreGroup}
use Rattle.java_core.specs.declared.stmt.CoreStmtForm.{CoreStmtForm, out-CoreStmtForm}
use Rattle.java_core.specs.declared.stmt.CoreStmtForm.TheOpen as g
use Rattle.java_core.specs.declared.stmt.CoreStmtForm.TheFolds.{map-CoreStmtForm}
use Rattle.java_core.specs.Plain as e
use Rattle.java_core.specs.View.{at_form, form_plain, maybe, plain, plains, stmt_form, stmt_form_plain, stmt_maybe, stmt_plain, group_plain, catch_plain, catch_row}
use Rattle.java_core.proofs.Views.{form_out, plain_at, stmt_out}
use Rattle.program_maps.specs.Trees.{ExprAlike, StmtAlike}
use Rattle.alike_trees.specs.declared.sides.Sides.{Sides}
use Rattle.alike_trees.specs.declared.sides.Unlike.{Unlike}
use Rattle.alike_trees.specs.Compared.{pair}

-- ---- plain forms

abbrev pub level : f.CoreForm-F CoreForm CoreExpr → e.Form
level L = at_form (map-CoreForm CoreForm CoreExpr e.Form e.Expr form_plain plain L)

-- x has a form whose parts L has
pub shaped : (x : CoreExpr) (y : CoreForm) (L : f.CoreForm-F CoreForm CoreExpr) → x.form ≡ y → out-CoreForm y ≡ L → plain x ≡ e.At x.node x.ty (level L)
shaped x y L is out = plain_at x ∙ ap (λ z. e.At x.node x.ty (form_plain z)) is ∙ ap (e.At x.node x.ty) (form_out y ∙ ap level out)

abbrev pub stmt_level : g.CoreStmtForm-F CoreStmtForm CoreCatch CoreGroup CoreStmt → Node → e.Stmt
stmt_level L = stmt_form (map-CoreStmtForm CoreStmtForm CoreCatch CoreGroup CoreStmt (Node → e.Stmt) e.Catch e.Group e.Stmt stmt_form_plain catch_plain group_plain stmt_plain L)

pub stmt_shaped : (x : CoreStmt) (y : CoreStmtForm) (L : g.CoreStmtForm-F CoreStmtForm CoreCatch CoreGroup CoreStmt) → x.form ≡ y → out-CoreStmtForm y ≡ L
    → stmt_plain x ≡ stmt_level L x.node
stmt_shaped x y L is out = stmt_out x ∙ ap (λ z. stmt_level (out-CoreStmtForm z) x.node) is ∙ ap (λ L. stmt_level L x.node) out

-- those with an option inside

pub static_field : (b : Before) (x : Option CoreExpr) (k : ℕ) → level (f.StaticField b x k) ≡ e.StaticField b (maybe (option_map plain x)) k
static_field b None k = refl
static_field b (Some x) k = refl

pub static_call : (b : Before) (x : Option CoreExpr) (k : ℕ) (xs : List CoreExpr) → level (f.StaticCall b x k xs) ≡ e.StaticCall b (maybe (option_map plain x)) k (plains xs)
static_call b None k xs = refl
static_call b (Some x) k xs = refl

pub branches : (n : Node) (x : CoreExpr) (y : CoreStmt) (z : Option CoreStmt) → stmt_level (g.If x y z) n ≡ e.If n (plain x) (stmt_plain y) (stmt_maybe (option_map stmt_plain z))
branches n x y None = refl
branches n x y (Some z) = refl

pub tried : (n : Node) (y : CoreStmt) (cs : List CoreCatch) (z : Option CoreStmt)
    → stmt_level (g.Try y cs z) n ≡ e.Try n (stmt_plain y) (catch_row (map catch_plain cs)) (stmt_maybe (option_map stmt_plain z))
tried n y cs None = refl
tried n y cs (Some z) = refl

-- ---- alike

module _ {A : Type 0} (P : A → Type 0) (x w : A) (is : x ≡ w) where
  -- P holds of x where it holds of what x is
  so : {Q : Type 0} → Q ↔ P w → Q ↔ P x
  so told = (λ q. subst P (sym is) (told.0 q), λ h. told.1 (subst P is h))

  behind : {Q R : Type 0} → Q ↔ R → R ↔ P w → Q ↔ P x
  behind told gives = so (λ q. gives.0 (told.0 q), λ h. told.1 (gives.1 h))

  -- and it does not, where there is no part
  none : {Q : Unlike → Type 0} (r : Result Unit Unlike) → (u : Unlike) × (r ≡ Err u) × Q u → ⊥ ↔ P w → (r ≡ Ok tt) ↔ P x
  none r exit gives = (λ q. absurd (cc (q, exit.1)), λ h. absurd (gives.1 (subst P is h)))

module _ (s : Sides) (x y : CoreExpr) where
  pub leaf : {Q : Type 0} {w : e.Expr} → plain x ≡ w → Q ↔ ExprAlike (pair s) w (plain y) → Q ↔ ExprAlike (pair s) (plain x) (plain y)
  leaf {w = w} is told = so (λ z. ExprAlike (pair s) z (plain y)) (plain x) w is told

  pub through : {Q R : Type 0} {w : e.Expr} → plain x ≡ w → Q ↔ R → R ↔ ExprAlike (pair s) w (plain y) → Q ↔ ExprAlike (pair s) (plain x) (plain y)
  through {w = w} is told gives = behind (λ z. ExprAlike (pair s) z (plain y)) (plain x) w is told gives

  pub refused : {Q : Unlike → Type 0} {w : e.Expr} (r : Result Unit Unlike) → (u : Unlike) × (r ≡ Err u) × Q u → plain x ≡ w → ⊥ ↔ ExprAlike (pair s) w (plain y)
      → (r ≡ Ok tt) ↔ ExprAlike (pair s) (plain x) (plain y)
  refused {w = w} r exit is gives = none (λ z. ExprAlike (pair s) z (plain y)) (plain x) w is r exit gives

  -- a form of one part, which is looked at as a'
  pub one_part : {Q : Type 0} {b : e.Expr} (make : e.Expr → e.Form) (a a' : CoreExpr) → plain x ≡ e.At x.node x.ty (make (plain a)) → a' ≡ a
      → Q ↔ ExprAlike (pair s) (plain a') b → ((n : Node) (z : e.Expr) → ExprAlike (pair s) z b ↔ ExprAlike (pair s) (e.At n x.ty (make z)) (plain y))
      → Q ↔ ExprAlike (pair s) (plain x) (plain y)
  one_part make a a' is same told gives = through (is ∙ ap (λ z. e.At x.node x.ty (make (plain z))) (sym same)) told (gives x.node (plain a'))

module _ (s : Sides) (x y : CoreStmt) where
  pub stmt_leaf : {Q : Type 0} {w : e.Stmt} → stmt_plain x ≡ w → Q ↔ StmtAlike (pair s) w (stmt_plain y) → Q ↔ StmtAlike (pair s) (stmt_plain x) (stmt_plain y)
  stmt_leaf {w = w} is told = so (λ z. StmtAlike (pair s) z (stmt_plain y)) (stmt_plain x) w is told

  pub stmt_through : {Q R : Type 0} {w : e.Stmt} → stmt_plain x ≡ w → Q ↔ R → R ↔ StmtAlike (pair s) w (stmt_plain y) → Q ↔ StmtAlike (pair s) (stmt_plain x) (stmt_plain y)
  stmt_through {w = w} is told gives = behind (λ z. StmtAlike (pair s) z (stmt_plain y)) (stmt_plain x) w is told gives

  pub stmt_refused : {Q : Unlike → Type 0} {w : e.Stmt} (r : Result Unit Unlike) → (u : Unlike) × (r ≡ Err u) × Q u → stmt_plain x ≡ w → ⊥ ↔ StmtAlike (pair s) w (stmt_plain y)
      → (r ≡ Ok tt) ↔ StmtAlike (pair s) (stmt_plain x) (stmt_plain y)
  stmt_refused {w = w} r exit is gives = none (λ z. StmtAlike (pair s) z (stmt_plain y)) (stmt_plain x) w is r exit gives

  -- a statement with one in it, which is looked at as a'
  pub one_body : {Q : Type 0} {b : e.Stmt} (make : Node → e.Stmt → e.Stmt) (a a' : CoreStmt) → stmt_plain x ≡ make x.node (stmt_plain a) → a' ≡ a
      → Q ↔ StmtAlike (pair s) (stmt_plain a') b → ((n : Node) (z : e.Stmt) → StmtAlike (pair s) z b ↔ StmtAlike (pair s) (make n z) (stmt_plain y))
      → Q ↔ StmtAlike (pair s) (stmt_plain x) (stmt_plain y)
  one_body make a a' is same told gives = stmt_through (is ∙ ap (λ z. make x.node (stmt_plain z)) (sym same)) told (gives x.node (stmt_plain a'))
