-- Lists of groups and of catches, by their first item.
use Rattle.std.proofs.Common.{◌≡◌, ◌+◌, List, ◌∷◌, Option, map, ap}
use Rattle.java_tree.specs.declared.tree.Node.{Node}
use Rattle.class_world.specs.declared.world.World.{World}
use Rattle.java_core.specs.declared.stmt.CoreGroup.{CoreGroup, out-CoreGroup}
use Rattle.java_core.specs.declared.stmt.CoreCatch.{CoreCatch, out-CoreCatch}
use Rattle.java_core.specs.declared.stmt.CoreStmtForm.TheFolds.{fold_out-CoreGroup, fold_out-CoreCatch}
use Rattle.java_core.specs.Plain as p
use Rattle.java_core.specs.View.{catch_node, catch_plain, catch_row, group_node, group_plain, group_row, param_plain, stmt_form, stmt_node, stmt_plain, stmts_plain}
use Rattle.type_places.specs.declared.places.TypePlace.{TypePlace}
use Rattle.type_places.specs.declared.places.Wanted.{Wanted}
use Rattle.type_places.specs.Places as spec
use Rattle.type_places.proofs.Heights.{catches_height, groups_height, stmt_height, stmts_height}

pub group_at : (x : CoreGroup) → group_plain x ≡ p.Labelled (out-CoreGroup x).node (out-CoreGroup x).labels (stmts_plain (out-CoreGroup x).body)
group_at x = fold_out-CoreGroup (Node → p.Stmt) p.Catch p.Group p.Stmt stmt_form catch_node group_node stmt_node x

pub catch_at : (x : CoreCatch) → catch_plain x ≡ p.Caught (out-CoreCatch x).node (param_plain (out-CoreCatch x).param) (stmt_plain (out-CoreCatch x).body)
catch_at x = fold_out-CoreCatch (Node → p.Stmt) p.Catch p.Group p.Stmt stmt_form catch_node group_node stmt_node x

pub group_sum : (x : CoreGroup) (xs : List CoreGroup)
    → groups_height (group_row (map group_plain (x ∷ xs))) ≡ stmts_height (stmts_plain (out-CoreGroup x).body) + groups_height (group_row (map group_plain xs)) + 1
group_sum x xs = ap (λ y. groups_height (p.AndGroup y (group_row (map group_plain xs)))) (group_at x)

pub catch_sum : (x : CoreCatch) (xs : List CoreCatch)
    → catches_height (catch_row (map catch_plain (x ∷ xs))) ≡ stmt_height (stmt_plain (out-CoreCatch x).body) + catches_height (catch_row (map catch_plain xs)) + 1
catch_sum x xs = ap (λ y. catches_height (p.AndCatch y (catch_row (map catch_plain xs)))) (catch_at x)

module _ (w : World) (q : Wanted) where
  pub group_first : (x : CoreGroup) (xs : List CoreGroup) (found : Option TypePlace)
      → spec.groups w q (group_row (map group_plain (x ∷ xs))) found ≡ spec.groups w q (group_row (map group_plain xs)) (spec.walks w q (stmts_plain (out-CoreGroup x).body) found)
  group_first x xs found = ap (λ y. spec.groups w q (p.AndGroup y (group_row (map group_plain xs))) found) (group_at x)

  pub catch_first : (x : CoreCatch) (xs : List CoreCatch) (found : Option TypePlace)
      → spec.catches w q (catch_row (map catch_plain (x ∷ xs))) found ≡ spec.catches w q (catch_row (map catch_plain xs)) (spec.walk w q (stmt_plain (out-CoreCatch x).body) found)
  catch_first x xs found = ap (λ y. spec.catches w q (p.AndCatch y (catch_row (map catch_plain xs))) found) (catch_at x)
