-- Walks over statements, groups and catches.
use Rattle.std.proofs.Common.{◌≡◌, ℕ, ◌+◌, ◌<◌, ◌≤◌, Bool, true, false, ◌&&◌, List, length, map, drop, get_or, drop-cons, add-one, sym, ap, ◌∙◌}
use Rattle.std.proofs.lemmas.List.{drop_all}
use Rattle.std.specs.Option.{option_map}
use Rattle.java_tree.specs.declared.tree.Node.{Node}
use Rattle.java_tree.specs.declared.tree.Stmt.{Stmt}
use Rattle.java_tree.specs.declared.tree.Group.{Group, out-Group}
use Rattle.java_tree.specs.declared.tree.Catch.{Catch, out-Catch}
use Rattle.java_tree.specs.declared.tree.StmtForm.TheFolds.{fold_out-Group, fold_out-Catch}
use Rattle.java_tree.specs.Plain as t
use Rattle.java_tree.specs.View.{plain, param_plain, stmt_form, stmt_node, catch_node, group_node, stmt_plain, stmts_plain, group_plain, group_row, catch_plain, catch_row}
use Rattle.java_parse_decl.specs.Parse.{calls_none, all_call_none, groups_call_none, catches_call_none}

group_out : (x : Group) → group_plain x ≡ t.Labelled (out-Group x).node (map (option_map plain) (out-Group x).labels) (stmts_plain (out-Group x).body)
group_out x = fold_out-Group (Node → t.Stmt) t.Catch t.Group t.Stmt stmt_form catch_node group_node stmt_node x

catch_out : (x : Catch) → catch_plain x ≡ t.Caught (out-Catch x).node (param_plain (out-Catch x).param) (stmt_plain (out-Catch x).body)
catch_out x = fold_out-Catch (Node → t.Stmt) t.Catch t.Group t.Stmt stmt_form catch_node group_node stmt_node x

-- what is so from one place on, by what stands there
stmt_from : (xs : List Stmt) (i : ℕ) (x : Stmt) → i < length xs → x ≡ get_or xs i x
    → all_call_none (stmts_plain (drop i xs)) ≡ (calls_none (stmt_plain x) && all_call_none (stmts_plain (drop (i + 1) xs)))
stmt_from xs i x below is =
    ap (λ ys. all_call_none (stmts_plain ys)) (drop-cons xs i x below)
    ∙ ap (λ k. calls_none (stmt_plain (get_or xs i x)) && all_call_none (stmts_plain (drop k xs))) (sym (add-one i))
    ∙ ap (λ y. calls_none (stmt_plain y) && all_call_none (stmts_plain (drop (i + 1) xs))) (sym is)

group_from : (xs : List Group) (i : ℕ) (x : Group) → i < length xs → x ≡ get_or xs i x
    → groups_call_none (group_row (map group_plain (drop i xs))) ≡ (all_call_none (stmts_plain (out-Group x).body) && groups_call_none (group_row (map group_plain (drop (i + 1) xs))))
group_from xs i x below is =
    ap (λ ys. groups_call_none (group_row (map group_plain ys))) (drop-cons xs i x below)
    ∙ ap (λ k. groups_call_none (t.AndGroup (group_plain (get_or xs i x)) (group_row (map group_plain (drop k xs))))) (sym (add-one i))
    ∙ ap (λ y. groups_call_none (t.AndGroup (group_plain y) (group_row (map group_plain (drop (i + 1) xs))))) (sym is)
    ∙ ap (λ y. groups_call_none (t.AndGroup y (group_row (map group_plain (drop (i + 1) xs))))) (group_out x)

catch_from : (xs : List Catch) (i : ℕ) (x : Catch) → i < length xs → x ≡ get_or xs i x
    → catches_call_none (catch_row (map catch_plain (drop i xs))) ≡ (calls_none (stmt_plain (out-Catch x).body) && catches_call_none (catch_row (map catch_plain (drop (i + 1) xs))))
catch_from xs i x below is =
    ap (λ ys. catches_call_none (catch_row (map catch_plain ys))) (drop-cons xs i x below)
    ∙ ap (λ k. catches_call_none (t.AndCatch (catch_plain (get_or xs i x)) (catch_row (map catch_plain (drop k xs))))) (sym (add-one i))
    ∙ ap (λ y. catches_call_none (t.AndCatch (catch_plain y) (catch_row (map catch_plain (drop (i + 1) xs))))) (sym is)
    ∙ ap (λ y. catches_call_none (t.AndCatch y (catch_row (map catch_plain (drop (i + 1) xs))))) (catch_out x)

-- a turn: `here` is what is so from this place on, `rest` from the next
fails : (whole here one rest b : Bool) → here ≡ whole → here ≡ (one && rest) → b ≡ one → b ≡ false → false ≡ whole
fails whole here one rest b e from is false_is = sym (sym e ∙ from ∙ ap (λ x. x && rest) (sym is ∙ false_is))

goes_on : (whole here one rest b : Bool) → here ≡ whole → here ≡ (one && rest) → b ≡ one → b ≡ true → rest ≡ whole
goes_on whole here one rest b e from is true_is = sym (sym e ∙ from ∙ ap (λ x. x && rest) (sym is ∙ true_is))

module _ (xs : List Stmt) (i : ℕ) (x : Stmt) (b : Bool) (here : all_call_none (stmts_plain (drop i xs)) ≡ all_call_none (stmts_plain xs)) (below : i < length xs) (is : x ≡ get_or xs i x)
    (answer : b ≡ calls_none (stmt_plain x)) where
  pub stmts_fail : b ≡ false → false ≡ all_call_none (stmts_plain xs)
  stmts_fail false_is = fails _ _ _ _ b here (stmt_from xs i x below is) answer false_is

  pub stmts_go_on : b ≡ true → all_call_none (stmts_plain (drop (i + 1) xs)) ≡ all_call_none (stmts_plain xs)
  stmts_go_on so = goes_on _ _ _ _ b here (stmt_from xs i x below is) answer so

module _ (xs : List Group) (i : ℕ) (x : Group) (b : Bool) (here : groups_call_none (group_row (map group_plain (drop i xs))) ≡ groups_call_none (group_row (map group_plain xs))) (below : i < length xs)
    (is : x ≡ get_or xs i x) (answer : b ≡ all_call_none (stmts_plain (out-Group x).body)) where
  pub groups_fail : b ≡ false → false ≡ groups_call_none (group_row (map group_plain xs))
  groups_fail false_is = fails _ _ _ _ b here (group_from xs i x below is) answer false_is

  pub groups_go_on : b ≡ true → groups_call_none (group_row (map group_plain (drop (i + 1) xs))) ≡ groups_call_none (group_row (map group_plain xs))
  groups_go_on so = goes_on _ _ _ _ b here (group_from xs i x below is) answer so

module _ (xs : List Catch) (i : ℕ) (x : Catch) (b : Bool) (here : catches_call_none (catch_row (map catch_plain (drop i xs))) ≡ catches_call_none (catch_row (map catch_plain xs))) (below : i < length xs)
    (is : x ≡ get_or xs i x) (answer : b ≡ calls_none (stmt_plain (out-Catch x).body)) where
  pub catches_fail : b ≡ false → false ≡ catches_call_none (catch_row (map catch_plain xs))
  catches_fail false_is = fails _ _ _ _ b here (catch_from xs i x below is) answer false_is

  pub catches_go_on : b ≡ true → catches_call_none (catch_row (map catch_plain (drop (i + 1) xs))) ≡ catches_call_none (catch_row (map catch_plain xs))
  catches_go_on so = goes_on _ _ _ _ b here (catch_from xs i x below is) answer so

pub stmts_done : (xs : List Stmt) (i : ℕ) → all_call_none (stmts_plain (drop i xs)) ≡ all_call_none (stmts_plain xs) → length xs ≤ i → true ≡ all_call_none (stmts_plain xs)
stmts_done xs i here past = sym (ap (λ ys. all_call_none (stmts_plain ys)) (drop_all i xs past)) ∙ here

pub groups_done : (xs : List Group) (i : ℕ) → groups_call_none (group_row (map group_plain (drop i xs))) ≡ groups_call_none (group_row (map group_plain xs)) → length xs ≤ i
    → true ≡ groups_call_none (group_row (map group_plain xs))
groups_done xs i here past = sym (ap (λ ys. groups_call_none (group_row (map group_plain ys))) (drop_all i xs past)) ∙ here

pub catches_done : (xs : List Catch) (i : ℕ) → catches_call_none (catch_row (map catch_plain (drop i xs))) ≡ catches_call_none (catch_row (map catch_plain xs)) → length xs ≤ i
    → true ≡ catches_call_none (catch_row (map catch_plain xs))
catches_done xs i here past = sym (ap (λ ys. catches_call_none (catch_row (map catch_plain ys))) (drop_all i xs past)) ∙ here
