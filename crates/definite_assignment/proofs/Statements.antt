-- Statements, by their parts.
use Rattle.std.proofs.Common.{◌≡◌, ◌+◌, List, ◌∷◌, Option, Some, None, map, refl, sym, ap, ◌∙◌}
use Rattle.std.specs.Option.{option_map}
use Rattle.java_tree.specs.declared.tree.Node.{Node}
use Rattle.class_world.specs.declared.world.World.{World}
use Rattle.java_core.specs.declared.expr.CoreExpr.{CoreExpr}
use Rattle.java_core.specs.declared.stmt.CoreStmt.{CoreStmt}
use Rattle.java_core.specs.declared.stmt.CoreStmtForm.{CoreStmtForm, out-CoreStmtForm}
use Rattle.java_core.specs.declared.stmt.CoreStmtForm.TheOpen as o
use Rattle.java_core.specs.declared.stmt.CoreGroup.{CoreGroup, out-CoreGroup}
use Rattle.java_core.specs.declared.stmt.CoreCatch.{CoreCatch, out-CoreCatch}
use Rattle.java_core.specs.declared.stmt.CoreStmtForm.TheFolds.{fold_out-CoreStmtForm, fold_out-CoreStmt, fold_out-CoreGroup, fold_out-CoreCatch, map-CoreStmtForm}
use Rattle.java_core.specs.Plain as p
use Rattle.java_core.specs.View.{catch_node, catch_plain, catch_row, group_node, group_plain, group_row, param_plain, plain, plains, stmt_form, stmt_form_plain, stmt_maybe, stmt_node, stmt_plain, stmts_plain}
use Rattle.definite_assignment.specs.declared.state.State.{State}
use Rattle.definite_assignment.specs.declared.state.Variable.{Variable}
use Rattle.definite_assignment.specs.declared.state.Variable.TheVariants as variable
use Rattle.definite_assignment.specs.Assigned as assigned
use Rattle.definite_assignment.specs.Bodies as spec
use Rattle.definite_assignment.specs.Variables.{either, without}
use Rattle.definite_assignment.proofs.Heights.{catches_height, groups_height, stmt_height, stmts_height}

pub stmt_at : (x : CoreStmt) → stmt_plain x ≡ stmt_form_plain x.form x.node
stmt_at x = fold_out-CoreStmt (Node → p.Stmt) p.Catch p.Group p.Stmt stmt_form catch_node group_node stmt_node x

abbrev pub stmt_level : o.CoreStmtForm-F CoreStmtForm CoreCatch CoreGroup CoreStmt → Node → p.Stmt
stmt_level L = stmt_form (map-CoreStmtForm CoreStmtForm CoreCatch CoreGroup CoreStmt (Node → p.Stmt) p.Catch p.Group p.Stmt stmt_form_plain catch_plain group_plain stmt_plain L)

pub stmt_shaped : (x : CoreStmt) (y : CoreStmtForm) (L : o.CoreStmtForm-F CoreStmtForm CoreCatch CoreGroup CoreStmt) → x.form ≡ y → out-CoreStmtForm y ≡ L → stmt_plain x ≡ stmt_level L x.node
stmt_shaped x y L is out =
    stmt_at x ∙ ap (λ z. stmt_form_plain z x.node) is
    ∙ ap (λ z. z x.node) (fold_out-CoreStmtForm (Node → p.Stmt) p.Catch p.Group p.Stmt stmt_form catch_node group_node stmt_node y)
    ∙ ap (λ L. stmt_level L x.node) out

pub group_at : (x : CoreGroup) → group_plain x ≡ p.Labelled (out-CoreGroup x).node (out-CoreGroup x).labels (stmts_plain (out-CoreGroup x).body)
group_at x = fold_out-CoreGroup (Node → p.Stmt) p.Catch p.Group p.Stmt stmt_form catch_node group_node stmt_node x

pub catch_at : (x : CoreCatch) → catch_plain x ≡ p.Caught (out-CoreCatch x).node (param_plain (out-CoreCatch x).param) (stmt_plain (out-CoreCatch x).body)
catch_at x = fold_out-CoreCatch (Node → p.Stmt) p.Catch p.Group p.Stmt stmt_form catch_node group_node stmt_node x

-- lists of groups and of catches are higher than their first item

pub group_sum : (x : CoreGroup) (xs : List CoreGroup)
    → groups_height (group_row (map group_plain (x ∷ xs))) ≡ stmts_height (stmts_plain (out-CoreGroup x).body) + groups_height (group_row (map group_plain xs)) + 1
group_sum x xs = ap (λ y. groups_height (p.AndGroup y (group_row (map group_plain xs)))) (group_at x)

pub catch_sum : (x : CoreCatch) (xs : List CoreCatch)
    → catches_height (catch_row (map catch_plain (x ∷ xs))) ≡ (stmt_height (stmt_plain (out-CoreCatch x).body) + 1) + catches_height (catch_row (map catch_plain xs)) + 1
catch_sum x xs = ap (λ y. catches_height (p.AndCatch y (catch_row (map catch_plain xs)))) (catch_at x)

-- ---- walks

module _ (w : World) where
  -- a statement of a form that is known
  pub known : (x : CoreStmt) (y : CoreStmtForm) (L : o.CoreStmtForm-F CoreStmtForm CoreCatch CoreGroup CoreStmt) (s : State) → x.form ≡ y → out-CoreStmtForm y ≡ L
      → spec.walk w (stmt_level L x.node) s ≡ spec.walk w (stmt_plain x) s
  known x y L s is out = ap (λ a. spec.walk w a s) (sym (stmt_shaped x y L is out))

  pub group_first : (before : List Variable) (x : CoreGroup) (xs : List CoreGroup) (s : State)
      → spec.groups w before (group_row (map group_plain (x ∷ xs))) s
      ≡ spec.groups w (either before (spec.declared_in (stmts_plain (out-CoreGroup x).body))) (group_row (map group_plain xs)) (spec.walks w (stmts_plain (out-CoreGroup x).body) (assigned.joined before s))
  group_first before x xs s = ap (λ y. spec.groups w before (p.AndGroup y (group_row (map group_plain xs))) s) (group_at x)

  pub catch_first : (before : List Variable) (x : CoreCatch) (xs : List CoreCatch) (s : State)
      → spec.catches w before (catch_row (map catch_plain (x ∷ xs))) s
      ≡ spec.catches w before (catch_row (map catch_plain xs)) (spec.caught (without before (variable.Local (out-CoreCatch x).param.slot)) (spec.walk w (stmt_plain (out-CoreCatch x).body)) s)
  catch_first before x xs s = ap (λ y. spec.catches w before (p.AndCatch y (catch_row (map catch_plain xs))) s) (catch_at x)

  pub if_parts : (n : Node) (x : CoreExpr) (a : CoreStmt) (b : Option CoreStmt) (s : State)
      → assigned.arms (spec.walk w (stmt_plain a)) (spec.maybe_walk w (stmt_maybe (option_map stmt_plain b))) (assigned.test w None (plain x) s) ≡ spec.walk w (stmt_level (o.If x a b) n) s
  if_parts n x a None s = refl
  if_parts n x a (Some b) s = refl

  pub for_parts : (n : Node) (ss : List CoreStmt) (x : Option CoreExpr) (xs : List CoreExpr) (a : CoreStmt) (s : State)
      → spec.for_loop (spec.optional_test w (option_map plain x)) (assigned.values w None (plains xs)) (spec.walk w (stmt_plain a)) (spec.walks w (stmts_plain ss) s)
      ≡ spec.walk w (stmt_level (o.For ss x xs a) n) s
  for_parts n ss None xs a s = refl
  for_parts n ss (Some x) xs a s = refl

  pub return_parts : (n : Node) (x : Option CoreExpr) (s : State) → spec.returned (spec.optional w None (option_map plain x) s) ≡ spec.walk w (stmt_level (o.Return x) n) s
  return_parts n None s = refl
  return_parts n (Some x) s = refl

  pub try_parts : (n : Node) (a : CoreStmt) (cs : List CoreCatch) (b : Option CoreStmt) (s : State)
      → spec.tried (spec.walk w (stmt_plain a)) (λ before. spec.catches w before (catch_row (map catch_plain cs))) (λ before. spec.finished w before (stmt_maybe (option_map stmt_plain b))) s
      ≡ spec.walk w (stmt_level (o.Try a cs b) n) s
  try_parts n a cs None s = refl
  try_parts n a cs (Some b) s = refl

  pub for_is : (x : Option CoreExpr) (xs ys : List CoreExpr) (a b : CoreStmt) (ss ts : List CoreStmt) (m s : State) → xs ≡ ys → a ≡ b → ss ≡ ts → m ≡ spec.walks w (stmts_plain ss) s
      → spec.for_loop (spec.optional_test w (option_map plain x)) (assigned.values w None (plains xs)) (spec.walk w (stmt_plain a)) m
      ≡ spec.for_loop (spec.optional_test w (option_map plain x)) (assigned.values w None (plains ys)) (spec.walk w (stmt_plain b)) (spec.walks w (stmts_plain ts) s)
  for_is x xs ys a b ss ts m s h j k is =
      ap (λ zs. spec.for_loop (spec.optional_test w (option_map plain x)) (assigned.values w None (plains zs)) (spec.walk w (stmt_plain a)) m) h
      ∙ ap (λ z. spec.for_loop (spec.optional_test w (option_map plain x)) (assigned.values w None (plains ys)) (spec.walk w (stmt_plain z)) m) j
      ∙ ap (spec.for_loop (spec.optional_test w (option_map plain x)) (assigned.values w None (plains ys)) (spec.walk w (stmt_plain b))) (is ∙ ap (λ zs. spec.walks w (stmts_plain zs) s) k)
