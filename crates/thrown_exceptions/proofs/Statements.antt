-- Statements, by their parts.
use Rattle.std.proofs.Common.{◌≡◌, ◌+◌, ◌⊎◌, inl, inr, Bool, List, [], ◌∷◌, Option, Some, None, map, refl, sym, ap, ◌∙◌}
use Rattle.std.specs.Option.{option_map}
use Rattle.java_tree.specs.declared.tree.Node.{Node}
use Rattle.class_world.specs.declared.world.World.{World}
use Rattle.class_world.specs.declared.world.JavaType.{JavaType}
use Rattle.java_core.specs.declared.expr.CoreExpr.{CoreExpr}
use Rattle.java_core.specs.declared.stmt.CoreStmt.{CoreStmt}
use Rattle.java_core.specs.declared.stmt.CoreStmtForm.{CoreStmtForm, out-CoreStmtForm}
use Rattle.java_core.specs.declared.stmt.CoreStmtForm.TheVariants as v
use Rattle.java_core.specs.declared.stmt.CoreStmtForm.TheOpen as o
use Rattle.java_core.specs.declared.stmt.CoreGroup.{CoreGroup, out-CoreGroup}
use Rattle.java_core.specs.declared.stmt.CoreCatch.{CoreCatch, out-CoreCatch}
use Rattle.java_core.specs.declared.stmt.CoreStmtForm.TheFolds.{fold_out-CoreStmtForm, fold_out-CoreStmt, fold_out-CoreGroup, fold_out-CoreCatch, map-CoreStmtForm}
use Rattle.java_core.specs.Plain as p
use Rattle.java_core.specs.View.{catch_node, catch_plain, catch_row, group_node, group_plain, group_row, param_plain, plain, stmt_form, stmt_form_plain, stmt_maybe, stmt_node, stmt_plain, stmts_plain}
use Rattle.thrown_exceptions.specs.declared.state.State.{State}
use Rattle.thrown_exceptions.specs.Thrown as spec
use Rattle.thrown_exceptions.proofs.Heights.{catches_height, groups_height, stmt_height, stmts_height}

pub stmt_at : (x : CoreStmt) → stmt_plain x ≡ stmt_form_plain x.form x.node
stmt_at x = fold_out-CoreStmt (Node → p.Stmt) p.Catch p.Group p.Stmt stmt_form catch_node group_node stmt_node x

abbrev pub stmt_level : o.CoreStmtForm-F CoreStmtForm CoreCatch CoreGroup CoreStmt → Node → p.Stmt
stmt_level L = stmt_form (map-CoreStmtForm CoreStmtForm CoreCatch CoreGroup CoreStmt (Node → p.Stmt) p.Catch p.Group p.Stmt stmt_form_plain catch_plain group_plain stmt_plain L)

pub stmt_shaped : (x : CoreStmt) (y : CoreStmtForm) (L : o.CoreStmtForm-F CoreStmtForm CoreCatch CoreGroup CoreStmt) → x.form ≡ y → out-CoreStmtForm y ≡ L → stmt_plain x ≡ stmt_level L x.node
stmt_shaped x y L is out =
    stmt_at x ∙ ap (λ z. stmt_form_plain z x.node) is
    ∙ ap (λ z. z x.node) (fold_out-CoreStmtForm (Node → p.Stmt) p.Catch p.Group p.Stmt stmt_form catch_node group_node stmt_node y)
    ∙ ap (λ L. stmt_level L x.node) out

pub group_at : (x : CoreGroup) → group_plain x ≡ p.Labelled (out-CoreGroup x).node (out-CoreGroup x).labels (stmts_plain (out-CoreGroup x).body)
group_at x = fold_out-CoreGroup (Node → p.Stmt) p.Catch p.Group p.Stmt stmt_form catch_node group_node stmt_node x

pub catch_at : (x : CoreCatch) → catch_plain x ≡ p.Caught (out-CoreCatch x).node (param_plain (out-CoreCatch x).param) (stmt_plain (out-CoreCatch x).body)
catch_at x = fold_out-CoreCatch (Node → p.Stmt) p.Catch p.Group p.Stmt stmt_form catch_node group_node stmt_node x

-- lists of groups and of catches are higher than their first item

pub group_sum : (x : CoreGroup) (xs : List CoreGroup)
    → groups_height (group_row (map group_plain (x ∷ xs))) ≡ stmts_height (stmts_plain (out-CoreGroup x).body) + groups_height (group_row (map group_plain xs)) + 1
group_sum x xs = ap (λ y. groups_height (p.AndGroup y (group_row (map group_plain xs)))) (group_at x)

pub catch_sum : (x : CoreCatch) (xs : List CoreCatch)
    → catches_height (catch_row (map catch_plain (x ∷ xs))) ≡ stmt_height (stmt_plain (out-CoreCatch x).body) + catches_height (catch_row (map catch_plain xs)) + 1
catch_sum x xs = ap (λ y. catches_height (p.AndCatch y (catch_row (map catch_plain xs)))) (catch_at x)

-- a statement without parts
abbrev pub IsIdle : CoreStmtForm → Type 0
IsIdle x = (x ≡ v.Empty) ⊎ (x ≡ v.Break) ⊎ (x ≡ v.Continue)

module _ (w : World) (below : JavaType → JavaType → Bool) where
  pub group_first : (x : CoreGroup) (xs : List CoreGroup) (s : State)
      → spec.groups w below (group_row (map group_plain (x ∷ xs))) s
      ≡ spec.groups w below (group_row (map group_plain xs)) (spec.walks w below (stmts_plain (out-CoreGroup x).body) s)
  group_first x xs s = ap (λ y. spec.groups w below (p.AndGroup y (group_row (map group_plain xs))) s) (group_at x)

  pub catch_first : (x : CoreCatch) (xs : List CoreCatch) (s : State)
      → spec.catches w below (catch_row (map catch_plain (x ∷ xs))) s
      ≡ spec.catches w below (catch_row (map catch_plain xs)) (spec.walk w below (stmt_plain (out-CoreCatch x).body) s)
  catch_first x xs s = ap (λ y. spec.catches w below (p.AndCatch y (catch_row (map catch_plain xs))) s) (catch_at x)

  -- where an option is inside
  pub if_parts : (n : Node) (x : CoreExpr) (a : CoreStmt) (b : Option CoreStmt) (s : State)
      → spec.maybe_walk w below (stmt_maybe (option_map stmt_plain b)) (spec.walk w below (stmt_plain a) (spec.value w below (plain x) s))
      ≡ spec.walk w below (stmt_level (o.If x a b) n) s
  if_parts n x a None s = refl
  if_parts n x a (Some b) s = refl

  pub try_parts : (n : Node) (a : CoreStmt) (cs : List CoreCatch) (b : Option CoreStmt) (s : State)
      → spec.after s.raised (spec.tried w below (catch_row (map catch_plain cs)) (stmt_maybe (option_map stmt_plain b)) (spec.walk w below (stmt_plain a) (spec.with_raised [] s)))
      ≡ spec.walk w below (stmt_level (o.Try a cs b) n) s
  try_parts n a cs None s = refl
  try_parts n a cs (Some b) s = refl

  none_of : (x : CoreStmt) (y : CoreStmtForm) (L : o.CoreStmtForm-F CoreStmtForm CoreCatch CoreGroup CoreStmt) (s : State) → x.form ≡ y → out-CoreStmtForm y ≡ L
      → spec.walk w below (stmt_level L x.node) s ≡ s → s ≡ spec.walk w below (stmt_plain x) s
  none_of x y L s is out none = sym (ap (λ x. spec.walk w below x s) (stmt_shaped x y L is out) ∙ none)

  pub idle : (x : CoreStmt) (s : State) → IsIdle x.form → s ≡ spec.walk w below (stmt_plain x) s
  idle x s (inl i) = none_of x v.Empty o.Empty s i v.outs-Empty refl
  idle x s (inr (inl i)) = none_of x v.Break o.Break s i v.outs-Break refl
  idle x s (inr (inr i)) = none_of x v.Continue o.Continue s i v.outs-Continue refl
