-- Lists of groups and of catches, by their first item.
use Rattle.std.proofs.Common.{◌≡◌, ℕ, ◌+◌, List, ◌∷◌, map, ap}
use Rattle.java_tree.specs.declared.tree.Node.{Node}
use Rattle.java_core.specs.declared.stmt.CoreGroup.{CoreGroup, out-CoreGroup}
use Rattle.java_core.specs.declared.stmt.CoreCatch.{CoreCatch, out-CoreCatch}
use Rattle.java_core.specs.declared.stmt.CoreStmtForm.TheFolds.{fold_out-CoreGroup, fold_out-CoreCatch}
use Rattle.java_core.specs.Plain as p
use Rattle.java_core.specs.View.{catch_node, catch_plain, catch_row, group_node, group_plain, group_row, param_plain, stmt_form, stmt_node, stmt_plain, stmts_plain, written}
use Rattle.class_places.specs.declared.places.ClassPlace.{ClassPlace}
use Rattle.class_places.specs.Places as spec
use Rattle.class_places.proofs.Heights.{catches_height, groups_height, stmt_height, stmts_height}

group_at : (x : CoreGroup) → group_plain x ≡ p.Labelled (out-CoreGroup x).node (out-CoreGroup x).labels (stmts_plain (out-CoreGroup x).body)
group_at x = fold_out-CoreGroup (Node → p.Stmt) p.Catch p.Group p.Stmt stmt_form catch_node group_node stmt_node x

catch_at : (x : CoreCatch) → catch_plain x ≡ p.Caught (out-CoreCatch x).node (param_plain (out-CoreCatch x).param) (stmt_plain (out-CoreCatch x).body)
catch_at x = fold_out-CoreCatch (Node → p.Stmt) p.Catch p.Group p.Stmt stmt_form catch_node group_node stmt_node x

pub group_sum : (x : CoreGroup) (xs : List CoreGroup)
    → groups_height (group_row (map group_plain (x ∷ xs))) ≡ stmts_height (stmts_plain (out-CoreGroup x).body) + groups_height (group_row (map group_plain xs)) + 1
group_sum x xs = ap (λ y. groups_height (p.AndGroup y (group_row (map group_plain xs)))) (group_at x)

pub catch_sum : (x : CoreCatch) (xs : List CoreCatch)
    → catches_height (catch_row (map catch_plain (x ∷ xs))) ≡ stmt_height (stmt_plain (out-CoreCatch x).body) + catches_height (catch_row (map catch_plain xs)) + 1
catch_sum x xs = ap (λ y. catches_height (p.AndCatch y (catch_row (map catch_plain xs)))) (catch_at x)

module _ (c : ℕ) where
  pub group_first : (x : CoreGroup) (xs : List CoreGroup) (places : List ClassPlace)
      → spec.groups c (group_row (map group_plain (x ∷ xs))) places ≡ spec.groups c (group_row (map group_plain xs)) (spec.walks c (stmts_plain (out-CoreGroup x).body) places)
  group_first x xs places = ap (λ y. spec.groups c (p.AndGroup y (group_row (map group_plain xs))) places) (group_at x)

  -- what is added by a catch
  abbrev pub caught : CoreCatch → List ClassPlace → List ClassPlace
  caught x places = spec.walk c (stmt_plain (out-CoreCatch x).body) (spec.in_args c (written (out-CoreCatch x).param.written) places)

  pub catch_first : (x : CoreCatch) (xs : List CoreCatch) (places : List ClassPlace)
      → spec.catches c (catch_row (map catch_plain (x ∷ xs))) places ≡ spec.catches c (catch_row (map catch_plain xs)) (caught x places)
  catch_first x xs places = ap (λ y. spec.catches c (p.AndCatch y (catch_row (map catch_plain xs))) places) (catch_at x)
