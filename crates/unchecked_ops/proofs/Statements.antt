-- Statements, by their parts.
use Rattle.std.proofs.Common.{◌≡◌, ◌+◌, ◌++◌, ◌⊎◌, inl, inr, Bool, false, List, [], ◌∷◌, Option, Some, None, map, refl, sym, ap, ◌∙◌}
use Rattle.std.specs.Option.{option_map}
use Rattle.java_tree.specs.declared.tree.Node.{Node}
use Rattle.class_world.specs.declared.world.JavaType.{JavaType}
use Rattle.java_core.specs.declared.expr.CoreExpr.{CoreExpr}
use Rattle.java_core.specs.declared.stmt.CoreStmt.{CoreStmt}
use Rattle.java_core.specs.declared.stmt.CoreStmtForm.{CoreStmtForm, out-CoreStmtForm}
use Rattle.java_core.specs.declared.stmt.CoreStmtForm.TheVariants as v
use Rattle.java_core.specs.declared.stmt.CoreStmtForm.TheOpen as o
use Rattle.java_core.specs.declared.stmt.CoreGroup.{CoreGroup, out-CoreGroup}
use Rattle.java_core.specs.declared.stmt.CoreCatch.{CoreCatch, out-CoreCatch}
use Rattle.java_core.specs.declared.stmt.CoreStmtForm.TheFolds.{fold_out-CoreStmtForm, fold_out-CoreStmt, fold_out-CoreGroup, fold_out-CoreCatch, map-CoreStmtForm}
use Rattle.java_core.specs.Plain as p
use Rattle.java_core.specs.View.{catch_node, catch_plain, catch_row, group_node, group_plain, group_row, param_plain, plain, stmt_form, stmt_form_plain, stmt_maybe, stmt_node, stmt_plain, stmts_plain}
use Rattle.type_facts.specs.Facts.{Facts}
use Rattle.unchecked_ops.specs.Operations as spec
use Rattle.unchecked_ops.proofs.Heights.{catches_height, groups_height, stmt_height, stmts_height}

pub stmt_at : (x : CoreStmt) → stmt_plain x ≡ stmt_form_plain x.form x.node
stmt_at x = fold_out-CoreStmt (Node → p.Stmt) p.Catch p.Group p.Stmt stmt_form catch_node group_node stmt_node x

abbrev pub stmt_level : o.CoreStmtForm-F CoreStmtForm CoreCatch CoreGroup CoreStmt → Node → p.Stmt
stmt_level L = stmt_form (map-CoreStmtForm CoreStmtForm CoreCatch CoreGroup CoreStmt (Node → p.Stmt) p.Catch p.Group p.Stmt stmt_form_plain catch_plain group_plain stmt_plain L)

pub stmt_shaped : (x : CoreStmt) (y : CoreStmtForm) (L : o.CoreStmtForm-F CoreStmtForm CoreCatch CoreGroup CoreStmt) → x.form ≡ y → out-CoreStmtForm y ≡ L → stmt_plain x ≡ stmt_level L x.node
stmt_shaped x y L is out =
    stmt_at x ∙ ap (λ z. stmt_form_plain z x.node) is
    ∙ ap (λ z. z x.node) (fold_out-CoreStmtForm (Node → p.Stmt) p.Catch p.Group p.Stmt stmt_form catch_node group_node stmt_node y)
    ∙ ap (λ L. stmt_level L x.node) out

pub group_at : (x : CoreGroup) → group_plain x ≡ p.Labelled (out-CoreGroup x).node (out-CoreGroup x).labels (stmts_plain (out-CoreGroup x).body)
group_at x = fold_out-CoreGroup (Node → p.Stmt) p.Catch p.Group p.Stmt stmt_form catch_node group_node stmt_node x

pub catch_at : (x : CoreCatch) → catch_plain x ≡ p.Caught (out-CoreCatch x).node (param_plain (out-CoreCatch x).param) (stmt_plain (out-CoreCatch x).body)
catch_at x = fold_out-CoreCatch (Node → p.Stmt) p.Catch p.Group p.Stmt stmt_form catch_node group_node stmt_node x

-- lists of groups and of catches are higher than their first item

pub group_sum : (x : CoreGroup) (xs : List CoreGroup)
    → groups_height (group_row (map group_plain (x ∷ xs))) ≡ stmts_height (stmts_plain (out-CoreGroup x).body) + groups_height (group_row (map group_plain xs)) + 1
group_sum x xs = ap (λ y. groups_height (p.AndGroup y (group_row (map group_plain xs)))) (group_at x)

pub catch_sum : (x : CoreCatch) (xs : List CoreCatch)
    → catches_height (catch_row (map catch_plain (x ∷ xs))) ≡ stmt_height (stmt_plain (out-CoreCatch x).body) + catches_height (catch_row (map catch_plain xs)) + 1
catch_sum x xs = ap (λ y. catches_height (p.AndCatch y (catch_row (map catch_plain xs)))) (catch_at x)

-- a statement without parts
abbrev pub IsIdle : CoreStmtForm → Type 0
IsIdle x = (x ≡ v.Empty) ⊎ (x ≡ v.Break) ⊎ (x ≡ v.Continue)

module _ (f : Facts) (u : JavaType → JavaType → Bool) (own above : JavaType) (r : Option JavaType) where
  pub group_first : (x : CoreGroup) (xs : List CoreGroup)
      → spec.group_ops f u own above r (group_row (map group_plain (x ∷ xs)))
      ≡ spec.stmts_ops f u own above r (stmts_plain (out-CoreGroup x).body) ++ spec.group_ops f u own above r (group_row (map group_plain xs))
  group_first x xs = ap (λ y. spec.group_ops f u own above r (p.AndGroup y (group_row (map group_plain xs)))) (group_at x)

  pub catch_first : (x : CoreCatch) (xs : List CoreCatch)
      → spec.catch_ops f u own above r (catch_row (map catch_plain (x ∷ xs)))
      ≡ spec.stmt_ops f u own above r (stmt_plain (out-CoreCatch x).body) ++ spec.catch_ops f u own above r (catch_row (map catch_plain xs))
  catch_first x xs = ap (λ y. spec.catch_ops f u own above r (p.AndCatch y (catch_row (map catch_plain xs)))) (catch_at x)

  pub maybe_some : (o : Option CoreStmt) (x : CoreStmt) → o ≡ Some x → spec.stmt_ops f u own above r (stmt_plain x) ≡ spec.maybe_stmt f u own above r (stmt_maybe (option_map stmt_plain o))
  maybe_some o x e = sym (ap (λ o. spec.maybe_stmt f u own above r (stmt_maybe (option_map stmt_plain o))) e)

  pub if_parts : (n : Node) (x : CoreExpr) (a : CoreStmt) (b : Option CoreStmt)
      → spec.ops f u above false (plain x) ++ (spec.stmt_ops f u own above r (stmt_plain a) ++ spec.maybe_stmt f u own above r (stmt_maybe (option_map stmt_plain b)))
      ≡ spec.stmt_ops f u own above r (stmt_level (o.If x a b) n)
  if_parts n x a None = refl
  if_parts n x a (Some b) = refl

  pub try_parts : (n : Node) (a : CoreStmt) (cs : List CoreCatch) (b : Option CoreStmt)
      → spec.stmt_ops f u own above r (stmt_plain a) ++ (spec.catch_ops f u own above r (catch_row (map catch_plain cs)) ++ spec.maybe_stmt f u own above r (stmt_maybe (option_map stmt_plain b)))
      ≡ spec.stmt_ops f u own above r (stmt_level (o.Try a cs b) n)
  try_parts n a cs None = refl
  try_parts n a cs (Some b) = refl

  none_of : (x : CoreStmt) (y : CoreStmtForm) (L : o.CoreStmtForm-F CoreStmtForm CoreCatch CoreGroup CoreStmt) → x.form ≡ y → out-CoreStmtForm y ≡ L
      → spec.stmt_ops f u own above r (stmt_level L x.node) ≡ [] → spec.stmt_ops f u own above r (stmt_plain x) ≡ []
  none_of x y L is out none = ap (spec.stmt_ops f u own above r) (stmt_shaped x y L is out) ∙ none

  pub idle : (x : CoreStmt) → IsIdle x.form → spec.stmt_ops f u own above r (stmt_plain x) ≡ []
  idle x (inl i) = none_of x v.Empty o.Empty i v.outs-Empty refl
  idle x (inr (inl i)) = none_of x v.Break o.Break i v.outs-Break refl
  idle x (inr (inr i)) = none_of x v.Continue o.Continue i v.outs-Continue refl
