-- Trees that have their numbers keep them.
use Rattle.std.proofs.Common.{◌≡◌, ℕ, ◌+◌, List, [], ◌∷◌, Option, None, Some, refl, ap, ◌∙◌}
use Rattle.java_tree.specs.declared.tree.Import.{Import}
use Rattle.java_tree.specs.Plain as t
use Rattle.java_tree.specs.Plain.{TypeExpr, TypeExprs, Expr, MaybeExpr, Exprs, Var, Param, Stmt, MaybeStmt, Stmts, Group, Groups, Catch, Catches, FieldDecl, MethodDecl, Member, TypeDecl, SourceUnit}
use Rattle.tree_numbers.specs.Numbers as numbers
use Rattle.unit_grammar.specs.Numbers as units

-- what is made of parts that are numbered one behind the other
both : {A B C : Type 0} (f : A → B → C) (g : ℕ → B × ℕ) {a u : A × ℕ} {b : B × ℕ} → a ≡ u → g u.1 ≡ b → ◌≡◌ {A = C × ℕ} (f a.0 (g a.1).0, (g a.1).1) (f u.0 b.0, b.1)
both f g {a} {u} {b} p q = ap (λ r. (f r.0 (g r.1).0, (g r.1).1)) p ∙ ap (λ r. (f u.0 r.0, r.1)) q

three : {A B C D : Type 0} (f : A → B → C → D) (g : ℕ → B × ℕ) (h : ℕ → C × ℕ) {a u : A × ℕ} {b : B × ℕ} {c : C × ℕ} → a ≡ u → g u.1 ≡ b → h b.1 ≡ c
    → ◌≡◌ {A = D × ℕ} (f a.0 (g a.1).0 (h (g a.1).1).0, (h (g a.1).1).1) (f u.0 b.0 c.0, c.1)
three f g h {a} {u} {b} {c} p q r = ap (λ x. (f x.0 (g x.1).0 (h (g x.1).1).0, (h (g x.1).1).1)) p ∙ ap (λ x. (f u.0 x.0 (h x.1).0, (h x.1).1)) q ∙ ap (λ x. (f u.0 b.0 x.0, x.1)) r

four : {A B C D E : Type 0} (f : A → B → C → D → E) (g : ℕ → B × ℕ) (h : ℕ → C × ℕ) (i : ℕ → D × ℕ) {a u : A × ℕ} {b : B × ℕ} {c : C × ℕ} {d : D × ℕ}
    → a ≡ u → g u.1 ≡ b → h b.1 ≡ c → i c.1 ≡ d
    → ◌≡◌ {A = E × ℕ} (f a.0 (g a.1).0 (h (g a.1).1).0 (i (h (g a.1).1).1).0, (i (h (g a.1).1).1).1) (f u.0 b.0 c.0 d.0, d.1)
four f g h i {a} {u} {b} {c} {d} p q r s =
    ap (λ x. (f x.0 (g x.1).0 (h (g x.1).1).0 (i (h (g x.1).1).1).0, (i (h (g x.1).1).1).1)) p ∙ ap (λ x. (f u.0 x.0 (h x.1).0 (i (h x.1).1).0, (i (h x.1).1).1)) q
    ∙ ap (λ x. (f u.0 b.0 x.0 (i x.1).0, (i x.1).1)) r ∙ ap (λ x. (f u.0 b.0 c.0 x.0, x.1)) s

mutual
  pub type_again : (x : TypeExpr) (k : ℕ) → numbers.type (numbers.type x k).0 k ≡ numbers.type x k
  type_again (t.Written n h s xs d) k = rw (types_again xs (k + 1)) refl

  pub types_again : (x : TypeExprs) (k : ℕ) → numbers.types (numbers.types x k).0 k ≡ numbers.types x k
  types_again t.NoTypes k = refl
  types_again (t.AndType x xs) k = rw (type_again x k, types_again xs (numbers.type x k).1) refl

mutual
  pub expr_again : (x : Expr) (k : ℕ) → numbers.expr (numbers.expr x k).0 k ≡ numbers.expr x k
  expr_again (t.Number n x d l) k = refl
  expr_again (t.Char n x) k = refl
  expr_again (t.Text n x) k = refl
  expr_again (t.Truth n x) k = refl
  expr_again (t.Null n) k = refl
  expr_again (t.This n) k = refl
  expr_again (t.Name n x) k = refl
  expr_again (t.Field n x f) k = rw (expr_again x (k + 1)) refl
  expr_again (t.SuperField n f) k = refl
  expr_again (t.Index n x y) k = rw (expr_again x (k + 1), expr_again y (numbers.expr x (k + 1)).1) refl
  expr_again (t.Call n of f xs) k = rw (maybe_again of (k + 1), exprs_again xs (numbers.maybe of (k + 1)).1) refl
  expr_again (t.SuperMethod n f xs) k = rw (exprs_again xs (k + 1)) refl
  expr_again (t.New n ty xs) k = rw (type_again ty (k + 1), exprs_again xs (numbers.type ty (k + 1)).1) refl
  expr_again (t.NewArray n ty xs extra) k = rw (type_again ty (k + 1), exprs_again xs (numbers.type ty (k + 1)).1) refl
  expr_again (t.NewFilled n ty x) k = rw (type_again ty (k + 1), expr_again x (numbers.type ty (k + 1)).1) refl
  expr_again (t.Items n xs) k = rw (exprs_again xs (k + 1)) refl
  expr_again (t.Paren n x) k = rw (expr_again x (k + 1)) refl
  expr_again (t.Unary n op x) k = rw (expr_again x (k + 1)) refl
  expr_again (t.Step n up before x) k = rw (expr_again x (k + 1)) refl
  expr_again (t.Cast n ty close x) k = rw (type_again ty (k + 1), expr_again x (numbers.type ty (k + 1)).1) refl
  expr_again (t.Binary n op x y) k = rw (expr_again x (k + 1), expr_again y (numbers.expr x (k + 1)).1) refl
  expr_again (t.InstanceOf n x ty) k = rw (expr_again x (k + 1), type_again ty (numbers.expr x (k + 1)).1) refl
  expr_again (t.Cond n x y z) k = rw (expr_again x (k + 1), expr_again y (numbers.expr x (k + 1)).1, expr_again z (numbers.expr y (numbers.expr x (k + 1)).1).1) refl
  expr_again (t.Assign n op x y) k = rw (expr_again x (k + 1), expr_again y (numbers.expr x (k + 1)).1) refl

  pub maybe_again : (x : MaybeExpr) (k : ℕ) → numbers.maybe (numbers.maybe x k).0 k ≡ numbers.maybe x k
  maybe_again t.NoExpr k = refl
  maybe_again (t.AnExpr x) k = rw (expr_again x k) refl

  pub exprs_again : (x : Exprs) (k : ℕ) → numbers.exprs (numbers.exprs x k).0 k ≡ numbers.exprs x k
  exprs_again t.End k = refl
  exprs_again (t.Also x xs) k = rw (expr_again x k, exprs_again xs (numbers.expr x k).1) refl

pub init_again : (x : Option Expr) (k : ℕ) → numbers.init (numbers.init x k).0 k ≡ numbers.init x k
init_again None k = refl
init_again (Some x) k = rw (expr_again x k) refl

pub labels_again : (x : List (Option Expr)) (k : ℕ) → numbers.labels (numbers.labels x k).0 k ≡ numbers.labels x k
labels_again [] k = refl
labels_again (x ∷ xs) k = rw (init_again x k, labels_again xs (numbers.init x k).1) refl

pub var_again : (x : Var) (k : ℕ) → numbers.var (numbers.var x k).0 k ≡ numbers.var x k
var_again v k = rw (init_again v.init (k + 1)) refl

pub vars_again : (x : List Var) (k : ℕ) → numbers.vars (numbers.vars x k).0 k ≡ numbers.vars x k
vars_again [] k = refl
vars_again (v ∷ vs) k = both (λ a b. a ∷ b) (λ j. numbers.vars (numbers.vars vs (numbers.var v k).1).0 j) (var_again v k) (vars_again vs (numbers.var v k).1)

pub param_again : (x : Param) (k : ℕ) → numbers.param (numbers.param x k).0 k ≡ numbers.param x k
param_again p k = rw (type_again p.ty (k + 1)) refl

mutual
  pub stmt_again : (x : Stmt) (k : ℕ) → numbers.stmt (numbers.stmt x k).0 k ≡ numbers.stmt x k
  stmt_again (t.Block n xs) k = rw (stmts_again xs (k + 1)) refl
  stmt_again (t.Local n f ty vs) k = rw (type_again ty (k + 1), vars_again vs (numbers.type ty (k + 1)).1) refl
  stmt_again (t.Empty n) k = refl
  stmt_again (t.Value n x) k = rw (expr_again x (k + 1)) refl
  stmt_again (t.If n x a b) k = rw (expr_again x (k + 1), stmt_again a (numbers.expr x (k + 1)).1, maybe_stmt_again b (numbers.stmt a (numbers.expr x (k + 1)).1).1) refl
  stmt_again (t.While n x a) k = rw (expr_again x (k + 1), stmt_again a (numbers.expr x (k + 1)).1) refl
  stmt_again (t.Do n a x) k = rw (stmt_again a (k + 1), expr_again x (numbers.stmt a (k + 1)).1) refl
  stmt_again (t.For n xs x ys a) k = rw (stmts_again xs (k + 1), init_again x (numbers.stmts xs (k + 1)).1, exprs_again ys (numbers.init x (numbers.stmts xs (k + 1)).1).1, stmt_again a (numbers.exprs ys (numbers.init x (numbers.stmts xs (k + 1)).1).1).1) refl
  stmt_again (t.ForEach n f ty v x a) k = rw (type_again ty (k + 1), expr_again x (numbers.type ty (k + 1)).1, stmt_again a (numbers.expr x (numbers.type ty (k + 1)).1).1) refl
  stmt_again (t.Switch n x gs) k = rw (expr_again x (k + 1), groups_again gs (numbers.expr x (k + 1)).1) refl
  stmt_again (t.Break n) k = refl
  stmt_again (t.Continue n) k = refl
  stmt_again (t.Return n x) k = rw (init_again x (k + 1)) refl
  stmt_again (t.Throw n x) k = rw (expr_again x (k + 1)) refl
  stmt_again (t.Try n a cs b) k = rw (stmt_again a (k + 1), catches_again cs (numbers.stmt a (k + 1)).1, maybe_stmt_again b (numbers.catches cs (numbers.stmt a (k + 1)).1).1) refl
  stmt_again (t.ThisCall n xs) k = rw (exprs_again xs (k + 1)) refl
  stmt_again (t.SuperCall n xs) k = rw (exprs_again xs (k + 1)) refl

  pub maybe_stmt_again : (x : MaybeStmt) (k : ℕ) → numbers.maybe_stmt (numbers.maybe_stmt x k).0 k ≡ numbers.maybe_stmt x k
  maybe_stmt_again t.NoStmt k = refl
  maybe_stmt_again (t.AStmt x) k = rw (stmt_again x k) refl

  pub stmts_again : (x : Stmts) (k : ℕ) → numbers.stmts (numbers.stmts x k).0 k ≡ numbers.stmts x k
  stmts_again t.Last k = refl
  stmts_again (t.Then x xs) k = rw (stmt_again x k, stmts_again xs (numbers.stmt x k).1) refl

  pub group_again : (x : Group) (k : ℕ) → numbers.group (numbers.group x k).0 k ≡ numbers.group x k
  group_again (t.Labelled n ls xs) k = rw (labels_again ls (k + 1), stmts_again xs (numbers.labels ls (k + 1)).1) refl

  pub groups_again : (x : Groups) (k : ℕ) → numbers.groups (numbers.groups x k).0 k ≡ numbers.groups x k
  groups_again t.NoGroup k = refl
  groups_again (t.AndGroup g gs) k = rw (group_again g k, groups_again gs (numbers.group g k).1) refl

  pub catch_again : (x : Catch) (k : ℕ) → numbers.catch (numbers.catch x k).0 k ≡ numbers.catch x k
  catch_again (t.Caught n p x) k =
      both (λ a b. t.Caught (numbers.at k n) a b) (λ j. numbers.stmt (numbers.stmt x (numbers.param p (k + 1)).1).0 j) (param_again p (k + 1)) (stmt_again x (numbers.param p (k + 1)).1)

  pub catches_again : (x : Catches) (k : ℕ) → numbers.catches (numbers.catches x k).0 k ≡ numbers.catches x k
  catches_again t.NoCatch k = refl
  catches_again (t.AndCatch c cs) k = rw (catch_again c k, catches_again cs (numbers.catch c k).1) refl

-- ---- declarations

pub type_list_again : (xs : List TypeExpr) (k : ℕ) → units.type_list (units.type_list xs k).0 k ≡ units.type_list xs k
type_list_again [] k = refl
type_list_again (x ∷ xs) k = rw (type_again x k, type_list_again xs (numbers.type x k).1) refl

pub result_again : (x : Option TypeExpr) (k : ℕ) → units.result (units.result x k).0 k ≡ units.result x k
result_again None k = refl
result_again (Some x) k = rw (type_again x k) refl

pub params_again : (xs : List Param) (k : ℕ) → units.params (units.params xs k).0 k ≡ units.params xs k
params_again [] k = refl
params_again (x ∷ xs) k = both (λ a b. a ∷ b) (λ j. units.params (units.params xs (numbers.param x k).1).0 j) (param_again x k) (params_again xs (numbers.param x k).1)

pub body_again : (x : Option Stmt) (k : ℕ) → units.body (units.body x k).0 k ≡ units.body x k
body_again None k = refl
body_again (Some x) k = rw (stmt_again x k) refl

pub field_again : (x : FieldDecl) (k : ℕ) → units.field (units.field x k).0 k ≡ units.field x k
field_again x k = rw (type_again x.ty (k + 1), vars_again x.vars (numbers.type x.ty (k + 1)).1) refl

pub method_again : (x : MethodDecl) (k : ℕ) → units.method (units.method x k).0 k ≡ units.method x k
method_again x k =
    four (λ a b d e. record { node = numbers.at k x.node; mods = x.mods; result = a; constructor = x.constructor; name = x.name; params = b; throws = d; body = e })
    (λ j. units.params (units.params x.params (units.after_result x k)).0 j)
    (λ j. units.type_list (units.type_list x.throws (units.after_params x k)).0 j)
    (λ j. units.body (units.body x.body (units.after_throws x k)).0 j)
    (result_again x.result (k + 1)) (params_again x.params (units.after_result x k)) (type_list_again x.throws (units.after_params x k)) (body_again x.body (units.after_throws x k))

pub member_again : (x : Member) (k : ℕ) → units.member (units.member x k).0 k ≡ units.member x k
member_again (t.AField x) k = ap (λ r. (t.AField r.0, r.1)) (field_again x k)
member_again (t.AMethod x) k = ap (λ r. (t.AMethod r.0, r.1)) (method_again x k)

pub members_again : (xs : List Member) (k : ℕ) → units.members (units.members xs k).0 k ≡ units.members xs k
members_again [] k = refl
members_again (x ∷ xs) k = both (λ a b. a ∷ b) (λ j. units.members (units.members xs (units.member x k).1).0 j) (member_again x k) (members_again xs (units.member x k).1)

pub decl_again : (x : TypeDecl) (k : ℕ) → units.decl (units.decl x k).0 k ≡ units.decl x k
decl_again x k =
    three (λ a b d. record { node = numbers.at k x.node; mods = x.mods; interface = x.interface; name = x.name; name_end = x.name_end; params = x.params; extends = a; implements = b; members = d })
    (λ j. units.type_list (units.type_list x.implements (units.after_extends x k)).0 j)
    (λ j. units.members (units.members x.members (units.after_implements x k)).0 j)
    (type_list_again x.extends (k + 1)) (type_list_again x.implements (units.after_extends x k)) (members_again x.members (units.after_implements x k))

pub decls_again : (xs : List TypeDecl) (k : ℕ) → units.decls (units.decls xs k).0 k ≡ units.decls xs k
decls_again [] k = refl
decls_again (x ∷ xs) k = both (λ a b. a ∷ b) (λ j. units.decls (units.decls xs (units.decl x k).1).0 j) (decl_again x k) (decls_again xs (units.decl x k).1)

pub imports_again : (xs : List Import) (k : ℕ) → units.imports (units.imports xs k).0 k ≡ units.imports xs k
imports_again [] k = refl
imports_again (x ∷ xs) k = rw (imports_again xs (k + 1)) refl

pub unit_again : (x : SourceUnit) (k : ℕ) → units.unit (units.unit x k).0 k ≡ units.unit x k
unit_again x k =
    both (λ a b. record { node = numbers.at k x.node; «package» = x.«package»; imports = a; types = b })
    (λ j. units.decls (units.decls x.types (units.imports x.imports (k + 1)).1).0 j)
    (imports_again x.imports (k + 1)) (decls_again x.types (units.imports x.imports (k + 1)).1)
