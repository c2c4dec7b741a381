-- Statements, by their forms.
use Rattle.std.proofs.Common.{◌≡◌, inl, inr, ◌⊎◌, List, ◌∷◌, Option, Some, None, map, refl, sym, ap, ◌∙◌}
use Rattle.std.specs.Option.{option_map}
use Rattle.java_tree.specs.declared.tree.Node.{Node}
use Rattle.java_core.specs.declared.expr.CoreExpr.{CoreExpr}
use Rattle.java_core.specs.declared.stmt.CoreStmt.{CoreStmt}
use Rattle.java_core.specs.declared.stmt.CoreStmtForm.{CoreStmtForm, out-CoreStmtForm}
use Rattle.java_core.specs.declared.stmt.CoreStmtForm.TheVariants as v
use Rattle.java_core.specs.declared.stmt.CoreStmtForm.TheOpen as o
use Rattle.java_core.specs.declared.stmt.CoreGroup.{CoreGroup, out-CoreGroup}
use Rattle.java_core.specs.declared.stmt.CoreCatch.{CoreCatch, out-CoreCatch}
use Rattle.java_core.specs.declared.stmt.CoreStmtForm.TheFolds.{fold_out-CoreStmtForm, fold_out-CoreStmt, fold_out-CoreGroup, fold_out-CoreCatch, map-CoreStmtForm}
use Rattle.java_core.specs.Plain as p
use Rattle.java_core.specs.View.{catch_node, catch_plain, catch_row, group_node, group_plain, group_row, param_plain, plain, stmt_form, stmt_form_plain, stmt_maybe, stmt_node, stmt_plain, stmts_plain}
use Rattle.extract_constraints.specs.declared.stmts.Walked.{Walked}
use Rattle.extract_constraints.specs.Told.{Told, Where}
use Rattle.extract_constraints.specs.Links as li

stmt_at : (x : CoreStmt) → stmt_plain x ≡ stmt_form_plain x.form x.node
stmt_at x = fold_out-CoreStmt (Node → p.Stmt) p.Catch p.Group p.Stmt stmt_form catch_node group_node stmt_node x

abbrev pub stmt_level : o.CoreStmtForm-F CoreStmtForm CoreCatch CoreGroup CoreStmt → Node → p.Stmt
stmt_level L = stmt_form (map-CoreStmtForm CoreStmtForm CoreCatch CoreGroup CoreStmt (Node → p.Stmt) p.Catch p.Group p.Stmt stmt_form_plain catch_plain group_plain stmt_plain L)

pub stmt_shaped : (x : CoreStmt) (y : CoreStmtForm) (L : o.CoreStmtForm-F CoreStmtForm CoreCatch CoreGroup CoreStmt) → x.form ≡ y → out-CoreStmtForm y ≡ L → stmt_plain x ≡ stmt_level L x.node
stmt_shaped x y L is out =
    stmt_at x ∙ ap (λ z. stmt_form_plain z x.node) is
    ∙ ap (λ z. z x.node) (fold_out-CoreStmtForm (Node → p.Stmt) p.Catch p.Group p.Stmt stmt_form catch_node group_node stmt_node y)
    ∙ ap (λ L. stmt_level L x.node) out

group_at : (x : CoreGroup) → group_plain x ≡ p.Labelled (out-CoreGroup x).node (out-CoreGroup x).labels (stmts_plain (out-CoreGroup x).body)
group_at x = fold_out-CoreGroup (Node → p.Stmt) p.Catch p.Group p.Stmt stmt_form catch_node group_node stmt_node x

catch_at : (x : CoreCatch) → catch_plain x ≡ p.Caught (out-CoreCatch x).node (param_plain (out-CoreCatch x).param) (stmt_plain (out-CoreCatch x).body)
catch_at x = fold_out-CoreCatch (Node → p.Stmt) p.Catch p.Group p.Stmt stmt_form catch_node group_node stmt_node x

-- a statement without parts
abbrev pub IsIdle : CoreStmtForm → Type 0
IsIdle x = (x ≡ v.Empty) ⊎ ((x ≡ v.Break) ⊎ (x ≡ v.Continue))

module _ (k : Told) (a : Where) where
  pub if_parts : (n : Node) (x : CoreExpr) (y : CoreStmt) (z : Option CoreStmt) (s : Walked)
      → li.maybe_walk k a (stmt_maybe (option_map stmt_plain z)) (li.walk k a (stmt_plain y) (li.same_locals s (λ ls. li.value k a ls (plain x)))) ≡ li.walk k a (stmt_level (o.If x y z) n) s
  if_parts n x y None s = refl
  if_parts n x y (Some z) s = refl

  pub try_parts : (n : Node) (y : CoreStmt) (cs : List CoreCatch) (z : Option CoreStmt) (s : Walked)
      → li.maybe_walk k a (stmt_maybe (option_map stmt_plain z)) (li.catches k a (catch_row (map catch_plain cs)) (li.walk k a (stmt_plain y) s)) ≡ li.walk k a (stmt_level (o.Try y cs z) n) s
  try_parts n y cs None s = refl
  try_parts n y cs (Some z) s = refl

  pub group_first : (x : CoreGroup) (xs : List CoreGroup) (s : Walked)
      → li.groups k a (group_row (map group_plain (x ∷ xs))) s ≡ li.groups k a (group_row (map group_plain xs)) (li.walks k a (stmts_plain (out-CoreGroup x).body) s)
  group_first x xs s = ap (λ y. li.groups k a (p.AndGroup y (group_row (map group_plain xs))) s) (group_at x)

  -- behind a catch
  abbrev pub after_catch : CoreCatch → Walked → Walked
  after_catch x s = li.walk k a (stmt_plain (out-CoreCatch x).body) (li.walked_with (li.with_local s.locals (out-CoreCatch x).param.slot (out-CoreCatch x).param.ty) s.links)

  pub catch_first : (x : CoreCatch) (xs : List CoreCatch) (s : Walked)
      → li.catches k a (catch_row (map catch_plain (x ∷ xs))) s ≡ li.catches k a (catch_row (map catch_plain xs)) (after_catch x s)
  catch_first x xs s = ap (λ y. li.catches k a (p.AndCatch y (catch_row (map catch_plain xs))) s) (catch_at x)

  idle_of : (x : CoreStmt) (y : CoreStmtForm) (L : o.CoreStmtForm-F CoreStmtForm CoreCatch CoreGroup CoreStmt) (s : Walked) → x.form ≡ y → out-CoreStmtForm y ≡ L
      → li.walk k a (stmt_level L x.node) s ≡ s → s ≡ li.walk k a (stmt_plain x) s
  idle_of x y L s is out none = sym (ap (λ x. li.walk k a x s) (stmt_shaped x y L is out) ∙ none)

  pub idle : (x : CoreStmt) (s : Walked) → IsIdle x.form → s ≡ li.walk k a (stmt_plain x) s
  idle x s (inl i) = idle_of x v.Empty o.Empty s i v.outs-Empty refl
  idle x s (inr (inl i)) = idle_of x v.Break o.Break s i v.outs-Break refl
  idle x s (inr (inr i)) = idle_of x v.Continue o.Continue s i v.outs-Continue refl
