-- What is read is in the grammar.
use Rattle.std.proofs.Common.{◌≡◌, ◌≢◌, ℕ, zero, suc, ◌+◌, ◌-◌, ◌<◌, ◌≤◌, Bool, true, false, cond, not, List, [], ◌∷◌, length, Option, Some, None, refl, sym, subst, ◌∙◌, arith}
use Rattle.java_tree.specs.declared.tree.Node.{Node}
use Rattle.java_tree.specs.declared.tree.UnOp.TheVariants as un
use Rattle.java_tree.specs.Plain as t
use Rattle.java_tree.specs.Plain.{TypeExpr, Expr, Var, Param, Stmt, Group, Catch}
use Rattle.java_tree.specs.View.{row, stmt_row, group_row, catch_row}
use Rattle.java_grammar.specs.declared.token.Tok.{Tok}
use Rattle.java_grammar.specs.declared.token.Sort.{Sort}
use Rattle.java_grammar.specs.declared.token.Sort.TheVariants as s
use Rattle.java_grammar.specs.declared.token.Keyword.{Keyword}
use Rattle.java_grammar.specs.declared.token.Keyword.TheVariants as kw
use Rattle.java_grammar.specs.declared.token.Mark.TheVariants as m
use Rattle.java_grammar.specs.Reads.{sort_at, name_at}
use Rattle.java_grammar.specs.Heights.{type_depth, expr_depth, below_exprs, below_init, below_vars, below_labels, stmt_depth, below_stmts, group_depth, below_groups, catch_depth, below_catches}
use Rattle.java_grammar.specs.Expressions.{node_of, SpellsType, Spells, AreValues, AreMoreValues}
use Rattle.java_grammar.specs.Statements.{IsStatement, IsBlock, IsFinal, IsInit, IsVar, AreVars, IsParam, IsLocal, IsTest, IsMaybe, ArePerformed, ArePerformedFirst, IsStart, IsUpdate, IsConstant, IsLabelValue, IsLabel, AreLabels, SpellsStmt, AreStmts, IsGroup, AreGroups, IsCatch, AreCatches, IsLast}
use Rattle.java_parse_term.specs.Marks.{given, is_mark, is_keyword, after_mark, after_keyword}
use Rattle.java_parse_term.proofs.Steps.{step, step_mark, step_keyword, step_word, step_if, step_unless, step_either, step_given, some_true, none_true, is_mark_says, is_keyword_says, is_keyword_has, after_mark_says, after_keyword_says, after_keyword_has}
use Rattle.java_parse_term.proofs.TypesSound.{brackets_are}
use Rattle.java_parse_expr.specs.Parse as read
use Rattle.java_parse_expr.specs.Parse.{Part, is_statement, is_constant, is_label_value, is_empty, equals_in, after_equals, is_label, is_no_label, is_no_catch, is_try_part, is_stop, after_final, type_under, expr_under, many, more, list_of, dims_at, values, init, var, vars, local, param, performed, first, parenthesized, perhaps, stmts, block_in, case_label, default_label, label, more_labels, labels, group, groups, caught, catches, block, empty, local_stmt, value, otherwise, choice, while_stmt, do_while, start, update, counted_end, counted, each_end, each, for_stmt, switch_stmt, break_stmt, continue_stmt, return_stmt, throw_stmt, with_last, without_last, try_stmt, this_call, super_call, this_stmt, super_stmt, other, by_sort, level, under}
use Rattle.java_parse_expr.proofs.Lists.{Rest, Run, list_fine, many_fine}
use Rattle.java_parse_expr.proofs.Begins.{block_is}

-- ---- tests of trees

statement_says : (e : Expr) → is_statement e ≡ true → IsStatement e
unfolding is_statement
statement_says (t.Assign n x e f) h = tt
statement_says (t.Step n up before e) h = tt
statement_says (t.Call n of x es) h = tt
statement_says (t.SuperMethod n x es) h = tt
statement_says (t.New n ty es) h = tt
statement_says _ h = absurd (cc)

-- the greatest depth below, for an inner node or not
abbrev pub lower : Bool → ℕ → ℕ
lower true h = h - 1
lower false h = h

module _ (text : List ℕ) (ts : List Tok)
    (types : (d i : ℕ) (g : Part TypeExpr) → type_under text ts d i ≡ Some g → SpellsType text ts g.tree i g.next × (type_depth g.tree < d))
    (exprs : (d k : ℕ) → 2 ≤ k → (i : ℕ) (g : Part Expr) → expr_under text ts d k i ≡ Some g → Spells text ts k g.tree i g.next × (expr_depth g.tree < d)) where
  constant_says : (e : Expr) → is_constant e ≡ true → IsConstant text ts e
  unfolding is_constant
  constant_says (t.Number n v d true) h = absurd (cc)
  constant_says (t.Number n v d false) h = refl
  constant_says (t.Char n c) h = tt
  constant_says _ h = absurd (cc)

  label_value_says : (e : Expr) → is_label_value e ≡ true → IsLabelValue text ts e
  unfolding is_label_value is_constant
  label_value_says (t.Unary n un.Minus e) h = constant_says e h
  label_value_says (t.Unary n un.Plus e) h = absurd (cc)
  label_value_says (t.Unary n un.Invert e) h = absurd (cc)
  label_value_says (t.Unary n un.Not e) h = absurd (cc)
  label_value_says (t.Number n v d true) h = absurd (cc)
  label_value_says (t.Number n v d false) h = refl
  label_value_says (t.Char n c) h = tt
  label_value_says _ h = absurd (cc)

  no_keyword : (x : Keyword) (i : ℕ) → after_keyword ts x i ≡ None → sort_at ts i ≢ s.Keyword x
  no_keyword x i none is = let both = sym none ∙ after_keyword_has ts x i is in cc

  equals_says : (i a : ℕ) → after_equals text ts i ≡ Some a → (sort_at ts i ≡ s.Assign None) × (a ≡ i + 1)
  unfolding after_equals
  equals_says i a e = by_sort (sort_at ts i) e
    where
      by_sort : (x : Sort) → cond (equals_in x) (Some (i + 1)) None ≡ Some a → (x ≡ s.Assign None) × (a ≡ i + 1)
      by_sort (s.Assign None) e = (refl, cc)
      by_sort _ e = absurd (cc)

  final_says : (i : ℕ) → IsFinal text ts (is_keyword ts kw.Final i) i (after_final text ts i)
  unfolding after_final
  final_says i = by_test (is_keyword ts kw.Final i) refl (after_keyword ts kw.Final i) refl
    where
      by_test : (b : Bool) → is_keyword ts kw.Final i ≡ b → (o : Option ℕ) → after_keyword ts kw.Final i ≡ o → IsFinal text ts b i (given o (λ a. a) i)
      by_test true is None e = let both = sym e ∙ after_keyword_has ts kw.Final i (is_keyword_says ts kw.Final i is) in absurd (cc)
      by_test true is (Some a) e = (is_keyword_says ts kw.Final i is, (after_keyword_says ts kw.Final i a e).1)
      by_test false is None e = refl
      by_test false is (Some a) e = let both : true ≡ false = sym (is_keyword_has ts kw.Final i (after_keyword_says ts kw.Final i a e).0) ∙ is in absurd (cc)

  -- ---- parts of statements

  IsExpr : ℕ → Expr → ℕ → ℕ → Type 0
  IsExpr d e i j = Spells text ts 14 e i j × (expr_depth e < d)

  values_are : (d : ℕ) (es : List Expr) (i j : ℕ) → Rest text ts (IsExpr d) es i j → sort_at ts j ≡ s.Mark m.Close → AreMoreValues text ts (row es) i (j + 1) × (below_exprs (row es) ≤ d)
  unfolding IsExpr
  values_are d [] i j r close_is = (rw r (rw r at close_is, refl), omega arith)
  values_are d (e ∷ es) i j (comma, a, p, r) close_is =
      let v = values_are d es a j r close_is in
      ((comma, a, p.0, v.0), omega (arith, p.1, v.1))

  pub values_fine : (d i : ℕ) (g : Part (List Expr)) → values text ts d i ≡ Some g → AreValues text ts (row g.tree) i g.next × (below_exprs (row g.tree) ≤ d)
  unfolding values IsExpr
  values_fine d i g e =
      step_given (after_mark ts m.Close i) _ _ g e
      (λ a close_is same.
      let at = after_mark_says ts m.Close i a close_is in
      let is : record { tree = []; next = a } ≡ g = cc in
      subst (λ (x : Part (List Expr)). AreValues text ts (row x.tree) i x.next × (below_exprs (row x.tree) ≤ d)) is ((at.0, at.1), omega arith))
      (λ none e1.
      step (list_of text ts (expr_under text ts d 14) i) _ g e1 (λ found got e2.
      step_mark ts m.Close found.next _ g e2 (λ close_is same.
      let is : record { tree = found.tree; next = found.next + 1 } ≡ g = cc in
      let r = list_fine text ts (IsExpr d) (expr_under text ts d 14) (λ i g e. exprs d 14 (omega arith) i g e) i found got in
      let v = values_are d r.1 r.2 found.next r.5 close_is in
      subst (λ (x : Part (List Expr)). AreValues text ts (row x.tree) i x.next × (below_exprs (row x.tree) ≤ d)) is
      (rw r.3 ((r.2, r.4.0, v.0), omega (arith, r.4.1, v.1))))))

  init_fine : (d i : ℕ) (g : Part (Option Expr)) → init text ts d i ≡ Some g → IsInit text ts g.tree i g.next × (below_init g.tree ≤ d)
  unfolding init
  init_fine d i g e =
      step_given (after_equals text ts i) _ _ g e
      (λ a there e1.
      let at = equals_says i a there in
      step (expr_under text ts d 15 a) _ g e1 (λ one got same.
      let is : record { tree = Some one.tree; next = one.next } ≡ g = cc in
      let r = exprs d 15 (omega arith) a one got in
      subst (λ (x : Part (Option Expr)). IsInit text ts x.tree i x.next × (below_init x.tree ≤ d)) is
      ((at.0, subst (λ b. Spells text ts 15 one.tree b one.next) at.1 r.0), omega (arith, r.1))))
      (λ none same.
      let is : record { tree = None; next = i } ≡ g = cc in
      subst (λ (x : Part (Option Expr)). IsInit text ts x.tree i x.next × (below_init x.tree ≤ d)) is (refl, omega arith))

  IsVarBelow : ℕ → Var → ℕ → ℕ → Type 0
  IsVarBelow d x i j = IsVar text ts x i j × (below_init x.init + 1 ≤ d)

  var_fine : (d i : ℕ) (g : Part Var) → 0 < d → var text ts d i ≡ Some g → IsVarBelow d g.tree i g.next
  unfolding var IsVarBelow
  var_fine d i g some e =
      step_word ts i _ g e (λ word e1.
      let dims = dims_at text ts (i + 1) in
      step (init text ts (d - 1) (dims_at text ts (i + 1)).next) _ g e1 (λ one got same.
      let is : record { tree = record { node = node_of text ts i one.next; name = record { 0 = name_at ts i }; dims = (dims_at text ts (i + 1)).is; init = one.tree }; next = one.next } ≡ g = cc in
      let r = init_fine (d - 1) (dims_at text ts (i + 1)).next one got in
      subst (λ (x : Part Var). IsVar text ts x.tree i x.next × (below_init x.tree.init + 1 ≤ d)) is
      (record { node = refl; name = (word, refl); end = (dims_at text ts (i + 1)).next; brackets = brackets_are text ts (i + 1); init = r.0 }, omega (arith, r.1))))

  vars_are : (d : ℕ) (x : Var) (xs : List Var) (i a j : ℕ) → IsVarBelow d x i a → Rest text ts (IsVarBelow d) xs a j → AreVars text ts (x ∷ xs) i j × (below_vars (x ∷ xs) ≤ d)
  unfolding IsVarBelow
  vars_are d x [] i a j p r = (rw r p.0, omega (arith, p.1))
  vars_are d x (y ∷ ys) i a j p (comma, b, q, r) =
      let v = vars_are d y ys (a + 1) b j q r in
      ((a, p.0, comma, v.0), omega (arith, p.1, v.1))

  pub vars_fine : (d i : ℕ) (g : Part (List Var)) → 0 < d → vars text ts d i ≡ Some g → AreVars text ts g.tree i g.next × (below_vars g.tree ≤ d)
  unfolding vars
  vars_fine d i g some e =
      let r = list_fine text ts (IsVarBelow d) (var text ts d) (λ i g e. var_fine d i g some e) i g e in
      rw r.3 (vars_are d r.0 r.1 i r.2 g.next r.4 r.5)

  record FineLocal (d i : ℕ) (g : Part (Node → Stmt)) : Type 0 where
    final : Bool
    ty : TypeExpr
    vars : List Var
    same : (n : Node) → g.tree n ≡ t.Local n final ty vars
    spells : IsLocal text ts final ty vars i g.next
    type_low : type_depth ty < d
    vars_low : below_vars vars ≤ d

  local_fine : (d i : ℕ) (g : Part (Node → Stmt)) → local text ts d i ≡ Some g → FineLocal d i g
  unfolding local
  local_fine d i g e =
      step (type_under text ts d (after_final text ts i)) _ g e (λ ty got e1.
      step (vars text ts d ty.next) _ g e1 (λ vs got' same.
      let is : record { tree = λ n. t.Local n (is_keyword ts kw.Final i) ty.tree vs.tree; next = vs.next } ≡ g = cc in
      let p = types d (after_final text ts i) ty got in
      let some : 0 < d = omega (arith, p.1) in
      let q = vars_fine d ty.next vs some got' in
      subst (FineLocal d i) is (record {
        final = is_keyword ts kw.Final i;
        ty = ty.tree;
        vars = vs.tree;
        same = λ n. refl;
        spells = (after_final text ts i, final_says i, ty.next, p.0, q.0);
        type_low = p.1;
        vars_low = q.1;
      })))

  pub param_fine : (d i : ℕ) (g : Part Param) → param text ts d i ≡ Some g → IsParam text ts g.tree i g.next × (type_depth g.tree.ty < d)
  unfolding param
  param_fine d i g e =
      step (type_under text ts d (after_final text ts i)) _ g e (λ ty got e1.
      step_word ts ty.next _ g e1 (λ word same.
      let is : record {
        tree = record { node = node_of text ts i (dims_at text ts (ty.next + 1)).next; is_final = is_keyword ts kw.Final i; ty = ty.tree; name = record { 0 = name_at ts ty.next }; dims = (dims_at text ts (ty.next + 1)).is };
        next = (dims_at text ts (ty.next + 1)).next;
      } ≡ g = cc in
      let p = types d (after_final text ts i) ty got in
      subst (λ (x : Part Param). IsParam text ts x.tree i x.next × (type_depth x.tree.ty < d)) is
      (record { node = refl; begin = after_final text ts i; final = final_says i; name_at = ty.next; type = p.0; name = (word, refl); brackets = brackets_are text ts (ty.next + 1) }, p.1)))

  -- ---- expressions that are statements

  IsPerformed : ℕ → Expr → ℕ → ℕ → Type 0
  IsPerformed d e i j = IsStatement e × Spells text ts 14 e i j × (expr_depth e < d)

  performed_fine : (d i : ℕ) (g : Part Expr) → performed text ts d i ≡ Some g → IsPerformed d g.tree i g.next
  unfolding performed IsPerformed
  performed_fine d i g e =
      step (expr_under text ts d 14 i) _ g e (λ one got e1.
      step_if (is_statement one.tree) (Some one) g e1 (λ stmt same.
      let is : one ≡ g = cc in
      let p = exprs d 14 (omega arith) i one got in
      subst (λ (x : Part Expr). IsStatement x.tree × Spells text ts 14 x.tree i x.next × (expr_depth x.tree < d)) is (statement_says one.tree stmt, p.0, p.1)))

  performed_are : (d : ℕ) (x : Expr) (xs : List Expr) (i a j : ℕ) → IsPerformed d x i a → Rest text ts (IsPerformed d) xs a j
      → ArePerformed text ts (t.Also x (row xs)) i j × (below_exprs (t.Also x (row xs)) ≤ d)
  unfolding IsPerformed
  performed_are d x [] i a j p r = ((p.0, rw r p.1), omega (arith, p.2))
  performed_are d x (y ∷ ys) i a j p (comma, b, q, r) =
      let v = performed_are d y ys (a + 1) b j q r in
      ((p.0, a, p.1, comma, v.0), omega (arith, p.2, v.1))

  IsFirst : ℕ → Stmt → ℕ → ℕ → Type 0
  IsFirst d x i j = (e : Expr) × (x ≡ t.Value (node_of text ts i j) e) × IsStatement e × Spells text ts 14 e i j × (expr_depth e < d)

  first_fine : (d i : ℕ) (g : Part Stmt) → first text ts d i ≡ Some g → IsFirst d g.tree i g.next
  unfolding first IsFirst IsPerformed
  first_fine d i g e =
      step (performed text ts d i) _ g e (λ one got same.
      let is : record { tree = t.Value (node_of text ts i one.next) one.tree; next = one.next } ≡ g = cc in
      let p = performed_fine d i one got in
      subst (λ (x : Part Stmt). (e : Expr) × (x.tree ≡ t.Value (node_of text ts i x.next) e) × IsStatement e × Spells text ts 14 e i x.next × (expr_depth e < d)) is
      (one.tree, refl, p.0, p.1, p.2))

  firsts_are : (h : ℕ) (x : Stmt) (xs : List Stmt) (i a j : ℕ) → IsFirst (h - 1) x i a → Rest text ts (IsFirst (h - 1)) xs a j
      → ArePerformedFirst text ts (t.Then x (stmt_row xs)) i j × (below_stmts (t.Then x (stmt_row xs)) ≤ h)
  unfolding IsFirst
  firsts_are h x [] i a j (e, is, stmt, p, low) r = rw is ((rw r refl, stmt, rw r p), omega arith)
  firsts_are h x (y ∷ ys) i a j (e, is, stmt, p, low) (comma, b, q, r) =
      let v = firsts_are h y ys (a + 1) b j q r in
      rw is ((a, refl, stmt, p, comma, v.0), omega (arith, v.1))

  -- ---- statements

  module _ (h : ℕ) (below : Bool → Bool → ℕ → Option (Part Stmt))
      (fine : (inner w : Bool) (i : ℕ) (g : Part Stmt) → below inner w i ≡ Some g → SpellsStmt text ts w g.tree i g.next × (stmt_depth g.tree < lower inner h)) where
    test_fine : (i : ℕ) (g : Part Expr) → parenthesized text ts h below i ≡ Some g → IsTest text ts g.tree i g.next × (expr_depth g.tree < h)
    unfolding parenthesized
    test_fine i g e =
        step_mark ts m.Open i _ g e (λ open_is e1.
        step (expr_under text ts h 14 (i + 1)) _ g e1 (λ one got e2.
        step_mark ts m.Close one.next _ g e2 (λ close_is same.
        let is : record { tree = one.tree; next = one.next + 1 } ≡ g = cc in
        let p = exprs h 14 (omega arith) (i + 1) one got in
        subst (λ (x : Part Expr). IsTest text ts x.tree i x.next × (expr_depth x.tree < h)) is ((open_is, one.next, p.0, close_is, refl), p.1))))

    perhaps_fine : (i : ℕ) (g : Part (Option Expr)) → perhaps text ts h below i ≡ Some g → IsMaybe text ts g.tree i g.next × (below_init g.tree ≤ h)
    unfolding perhaps
    perhaps_fine i g e =
        step_either (is_mark ts m.Semicolon i) _ _ g e
        (λ semi same.
        let is : record { tree = None; next = i } ≡ g = cc in
        subst (λ (x : Part (Option Expr)). IsMaybe text ts x.tree i x.next × (below_init x.tree ≤ h)) is (refl, omega arith))
        (λ other e1.
        step (expr_under text ts h 14 i) _ g e1 (λ one got same.
        let is : record { tree = Some one.tree; next = one.next } ≡ g = cc in
        let p = exprs h 14 (omega arith) i one got in
        subst (λ (x : Part (Option Expr)). IsMaybe text ts x.tree i x.next × (below_init x.tree ≤ h)) is (p.0, omega (arith, p.1))))

    IsStmtBelow : ℕ → Stmt → ℕ → ℕ → Type 0
    IsStmtBelow d x i j = SpellsStmt text ts true x i j × (stmt_depth x < d)

    stmts_are : (d : ℕ) (xs : List Stmt) (i j : ℕ) → Run text ts (IsStmtBelow d) xs i j → AreStmts text ts (stmt_row xs) i j × (below_stmts (stmt_row xs) ≤ d)
    unfolding IsStmtBelow
    stmts_are d [] i j r = (r, omega arith)
    stmts_are d (x ∷ xs) i j (a, p, r) =
        let v = stmts_are d xs a j r in
        ((a, p.0, v.0), omega (arith, p.1, v.1))

    record FineStmts (inner : Bool) (i : ℕ) (g : Part (List Stmt)) : Type 0 where
      spells : AreStmts text ts (stmt_row g.tree) i g.next
      low : below_stmts (stmt_row g.tree) ≤ lower inner h
      stop : is_stop text ts g.next ≡ true

    stmts_fine : (inner : Bool) (i : ℕ) (g : Part (List Stmt)) → stmts text ts h below inner i ≡ Some g → FineStmts inner i g
    unfolding stmts IsStmtBelow
    stmts_fine inner i g e =
        let r = many_fine text ts (IsStmtBelow (lower inner h)) (below inner true) (λ i g e. fine inner true i g e) (is_stop text ts) (length ts) [] i g e in
        let v = stmts_are (lower inner h) r.run i g.next r.spells in
        record { spells = rw r.trees v.0; low = rw r.trees v.1; stop = r.stop }

    block_in_fine : (inner : Bool) (i : ℕ) (g : Part Stmt) → block_in text ts h below inner i ≡ Some g
        → IsBlock g.tree × SpellsStmt text ts false g.tree i g.next × (stmt_depth g.tree < lower inner h)
    unfolding block_in
    block_in_fine inner i g e =
        step_if (is_mark ts m.LeftBrace i) (below inner false i) g e (λ brace e1.
        let p = fine inner false i g e1 in
        (block_is text ts g.tree i g.next p.0 (is_mark_says ts m.LeftBrace i brace), p.0, p.1))

    -- ---- labels, groups and catches

    IsLabelBelow : Option Expr → ℕ → ℕ → Type 0
    IsLabelBelow x i j = IsLabel text ts x i j × (below_init x ≤ h - 1)

    label_fine : (i : ℕ) (g : Part (Option Expr)) → label text ts h below i ≡ Some g → IsLabelBelow g.tree i g.next
    unfolding label case_label default_label IsLabelBelow
    label_fine i g e =
        step_given (after_keyword ts kw.Case i) _ _ g e
        (λ a word e1.
        let at = after_keyword_says ts kw.Case i a word in
        step (expr_under text ts (h - 1) 2 a) _ g e1 (λ one got e2.
        step_mark ts m.Colon one.next _ g e2 (λ colon e3.
        step_if (is_label_value one.tree) (Some (record { tree = Some one.tree; next = one.next + 1 })) g e3 (λ value same.
        let is : record { tree = Some one.tree; next = one.next + 1 } ≡ g = cc in
        let p = exprs (h - 1) 2 (omega arith) a one got in
        subst (λ (x : Part (Option Expr)). IsLabel text ts x.tree i x.next × (below_init x.tree ≤ h - 1)) is
        ((at.0, label_value_says one.tree value, one.next, subst (λ b. Spells text ts 2 one.tree b one.next) at.1 p.0, colon, refl), omega (arith, p.1))))))
        (λ none e1.
        step_keyword ts kw.Default i _ g e1 (λ word e2.
        step_mark ts m.Colon (i + 1) _ g e2 (λ colon same.
        let is : record { tree = None; next = i + 1 + 1 } ≡ g = cc in
        subst (λ (x : Part (Option Expr)). IsLabel text ts x.tree i x.next × (below_init x.tree ≤ h - 1)) is ((word, colon, omega arith), omega arith))))

    labels_are : (x : Option Expr) (xs : List (Option Expr)) (i a j : ℕ) → IsLabelBelow x i a → Run text ts IsLabelBelow xs a j
        → AreLabels text ts (x ∷ xs) i j × (below_labels (x ∷ xs) ≤ h - 1)
    unfolding IsLabelBelow
    labels_are x [] i a j p r = (rw r p.0, omega (arith, p.1))
    labels_are x (y ∷ ys) i a j p (b, q, r) =
        let v = labels_are y ys a b j q r in
        ((a, p.0, v.0), omega (arith, p.1, v.1))

    record FineLabels (i : ℕ) (g : Part (List (Option Expr))) : Type 0 where
      spells : AreLabels text ts g.tree i g.next
      low : below_labels g.tree ≤ h - 1
      stop : is_no_label text ts g.next ≡ true

    labels_fine : (i : ℕ) (g : Part (List (Option Expr))) → labels text ts h below i ≡ Some g → FineLabels i g
    unfolding labels more_labels
    labels_fine i g e =
        step (label text ts h below i) _ g e (λ one got e1.
        let r = many_fine text ts IsLabelBelow (label text ts h below) label_fine (is_no_label text ts) (length ts) (one.tree ∷ []) one.next g e1 in
        let v = labels_are one.tree r.run i one.next g.next (label_fine i one got) r.spells in
        record { spells = rw r.trees v.0; low = rw r.trees v.1; stop = r.stop })

    IsGroupBelow : Group → ℕ → ℕ → Type 0
    IsGroupBelow x i j = IsGroup text ts x i j × (group_depth x + 1 ≤ h)

    brace_is : (i : ℕ) → is_no_label text ts i ≡ true → is_stop text ts i ≡ true → sort_at ts i ≡ s.Mark m.RightBrace
    unfolding is_no_label is_stop
    brace_is i none stop = by_label (is_label text ts i) none refl
      where
        by_label : (b : Bool) → not b ≡ true → is_label text ts i ≡ b → sort_at ts i ≡ s.Mark m.RightBrace
        by_label true other e = absurd (cc)
        by_label false other e =
            some_true (is_mark ts m.RightBrace i) (is_label text ts i) stop (λ brace. is_mark_says ts m.RightBrace i brace)
            (λ label. let both = sym e ∙ label in absurd (cc))

    group_fine : (i : ℕ) (g : Part Group) → 0 < h → group text ts h below i ≡ Some g → IsGroupBelow g.tree i g.next
    unfolding group IsGroupBelow
    group_fine i g some e =
        step (labels text ts h below i) _ g e (λ ls got e1.
        step (stmts text ts h below true ls.next) _ g e1 (λ xs got' same.
        let is : record { tree = t.Labelled (node_of text ts i xs.next) ls.tree (stmt_row xs.tree); next = xs.next } ≡ g = cc in
        let p = labels_fine i ls got in
        let q = stmts_fine true ls.next xs got' in
        subst (λ (x : Part Group). IsGroup text ts x.tree i x.next × (group_depth x.tree + 1 ≤ h)) is
        (by_stmts xs.tree xs.next ls p q.spells q.stop, omega (arith, p.low, q.low))))
      where
        by_stmts : (xs : List Stmt) (j : ℕ) (ls : Part (List (Option Expr))) → FineLabels i ls → AreStmts text ts (stmt_row xs) ls.next j → is_stop text ts j ≡ true
            → IsGroup text ts (t.Labelled (node_of text ts i j) ls.tree (stmt_row xs)) i j
        by_stmts [] j ls p q stop = (refl, rw q p.spells, brace_is j (rw q p.stop) stop)
        by_stmts (x ∷ xs) j ls p (a, r, q) stop = (refl, ls.next, p.spells, a, r, q)

    groups_are : (xs : List Group) (i j : ℕ) → Run text ts IsGroupBelow xs i j → AreGroups text ts (group_row xs) i j × (below_groups (group_row xs) ≤ h)
    unfolding IsGroupBelow
    groups_are [] i j r = (r, omega arith)
    groups_are (x ∷ xs) i j (a, p, r) =
        let v = groups_are xs a j r in
        ((a, p.0, v.0), omega (arith, p.1, v.1))

    groups_fine : (i : ℕ) (g : Part (List Group)) → 0 < h → groups text ts h below i ≡ Some g → AreGroups text ts (group_row g.tree) i g.next × (below_groups (group_row g.tree) ≤ h)
    unfolding groups
    groups_fine i g some e =
        let r = many_fine text ts IsGroupBelow (group text ts h below) (λ i g e. group_fine i g some e) (is_mark ts m.RightBrace) (length ts) [] i g e in
        let v = groups_are r.run i g.next r.spells in
        (rw r.trees v.0, rw r.trees v.1)

    IsCatchBelow : Catch → ℕ → ℕ → Type 0
    IsCatchBelow x i j = IsCatch text ts x i j × (catch_depth x + 1 ≤ h)

    caught_fine : (i : ℕ) (g : Part Catch) → caught text ts h below i ≡ Some g → IsCatchBelow g.tree i g.next
    unfolding caught IsCatchBelow
    caught_fine i g e =
        step_keyword ts kw.Catch i _ g e (λ word e1.
        step_mark ts m.Open (i + 1) _ g e1 (λ open_is e2.
        step (param text ts (h - 2) (i + 1 + 1)) _ g e2 (λ p got e3.
        step_mark ts m.Close p.next _ g e3 (λ close_is e4.
        step (block_in text ts h below true (p.next + 1)) _ g e4 (λ x got' same.
        let is : record { tree = t.Caught (node_of text ts i x.next) p.tree x.tree; next = x.next } ≡ g = cc in
        let two : i + 1 + 1 ≡ i + 2 = omega arith in
        let q = param_fine (h - 2) (i + 1 + 1) p got in
        let r = block_in_fine true (p.next + 1) x got' in
        subst (λ (x : Part Catch). IsCatch text ts x.tree i x.next × (catch_depth x.tree + 1 ≤ h)) is
        ((refl, word, open_is, p.next, subst (λ b. IsParam text ts p.tree b p.next) two q.0, close_is, r.0, r.1), omega (arith, q.1, r.2)))))))

    catches_are : (xs : List Catch) (i j : ℕ) → Run text ts IsCatchBelow xs i j → AreCatches text ts (catch_row xs) i j × (below_catches (catch_row xs) ≤ h)
    unfolding IsCatchBelow
    catches_are [] i j r = (r, omega arith)
    catches_are (x ∷ xs) i j (a, p, r) =
        let v = catches_are xs a j r in
        ((a, p.0, v.0), omega (arith, p.1, v.1))

    record FineCatches (i : ℕ) (g : Part (List Catch)) : Type 0 where
      spells : AreCatches text ts (catch_row g.tree) i g.next
      low : below_catches (catch_row g.tree) ≤ h
      stop : is_no_catch text ts g.next ≡ true

    catches_fine : (i : ℕ) (g : Part (List Catch)) → catches text ts h below i ≡ Some g → FineCatches i g
    unfolding catches
    catches_fine i g e =
        let r = many_fine text ts IsCatchBelow (caught text ts h below) caught_fine (is_no_catch text ts) (length ts) [] i g e in
        let v = catches_are r.run i g.next r.spells in
        record { spells = rw r.trees v.0; low = rw r.trees v.1; stop = r.stop }

    -- ---- the forms

    record FineStmt (w : Bool) (i : ℕ) (g : Part Stmt) : Type 0 where
      spells : SpellsStmt text ts w g.tree i g.next
      low : stmt_depth g.tree ≤ h

    -- from what is spelled to what was made of it
    fine_of : (w : Bool) (i j : ℕ) (x : Stmt) (g : Part Stmt) → Some (record { tree = x; next = j }) ≡ Some g → SpellsStmt text ts w x i j → stmt_depth x ≤ h → FineStmt w i g
    fine_of w i j x g same p low =
        let is : record { tree = x; next = j } ≡ g = cc in
        subst (FineStmt w i) is (record { spells = p; low = low })

    block_fine : (w : Bool) (i : ℕ) (g : Part Stmt) → block text ts h below i ≡ Some g → FineStmt w i g
    unfolding block
    block_fine w i g e =
        step_mark ts m.LeftBrace i _ g e (λ open_is e1.
        step (stmts text ts h below false (i + 1)) _ g e1 (λ xs got e2.
        step_mark ts m.RightBrace xs.next _ g e2 (λ close_is same.
        let p = stmts_fine false (i + 1) xs got in
        fine_of w i (xs.next + 1) (t.Block (node_of text ts i (xs.next + 1)) (stmt_row xs.tree)) g same (refl, open_is, xs.next, p.spells, close_is, refl) p.low)))

    empty_fine : (w : Bool) (i : ℕ) (g : Part Stmt) → empty text ts h below i ≡ Some g → FineStmt w i g
    unfolding empty
    empty_fine w i g e =
        step_mark ts m.Semicolon i _ g e (λ semi same.
        fine_of w i (i + 1) (t.Empty (node_of text ts i (i + 1))) g same (refl, semi, refl) (omega arith))

    local_stmt_fine : (i : ℕ) (g : Part Stmt) → local_stmt text ts h below i ≡ Some g → FineStmt true i g
    unfolding local_stmt
    local_stmt_fine i g e =
        step (local text ts h i) _ g e (λ l got e1.
        step_mark ts m.Semicolon l.next _ g e1 (λ semi same.
        let p = local_fine h i l got in
        let tree_is = p.same (node_of text ts i (l.next + 1)) in
        fine_of true i (l.next + 1) (t.Local (node_of text ts i (l.next + 1)) p.final p.ty p.vars) g (rw (← tree_is) same) (refl, l.next, p.spells, semi, refl)
        (omega (arith, p.type_low, p.vars_low))))

    value_fine : (w : Bool) (i : ℕ) (g : Part Stmt) → value text ts h below i ≡ Some g → FineStmt w i g
    unfolding value IsPerformed
    value_fine w i g e =
        step (performed text ts h i) _ g e (λ one got e1.
        step_mark ts m.Semicolon one.next _ g e1 (λ semi same.
        let p = performed_fine h i one got in
        fine_of w i (one.next + 1) (t.Value (node_of text ts i (one.next + 1)) one.tree) g same (refl, p.0, one.next, p.1, semi, refl) (omega (arith, p.2))))

    choice_fine : (w : Bool) (i : ℕ) (g : Part Stmt) → choice text ts h below i ≡ Some g → FineStmt w i g
    unfolding choice otherwise
    choice_fine w i g e =
        step_keyword ts kw.If i _ g e (λ word e1.
        step (parenthesized text ts h below (i + 1)) _ g e1 (λ test got e2.
        step (below false false test.next) _ g e2 (λ x got' e3.
        let p = test_fine (i + 1) test got in
        let q = fine false false test.next x got' in
        step_given (after_keyword ts kw.Else x.next) _ _ g e3
        (λ a there e4.
        let at = after_keyword_says ts kw.Else x.next a there in
        step (below false false a) _ g e4 (λ y got'' same.
        let r = fine false false a y got'' in
        fine_of w i y.next (t.If (node_of text ts i y.next) test.tree x.tree (t.AStmt y.tree)) g same
        (refl, word, test.next, p.0, x.next, q.0, at.0, subst (λ b. SpellsStmt text ts false y.tree b y.next) at.1 r.0) (omega (arith, p.1, q.1, r.1))))
        (λ none same.
        fine_of w i x.next (t.If (node_of text ts i x.next) test.tree x.tree t.NoStmt) g same
        (refl, word, test.next, p.0, q.0, no_keyword kw.Else x.next none) (omega (arith, p.1, q.1))))))

    while_fine : (w : Bool) (i : ℕ) (g : Part Stmt) → while_stmt text ts h below i ≡ Some g → FineStmt w i g
    unfolding while_stmt
    while_fine w i g e =
        step_keyword ts kw.While i _ g e (λ word e1.
        step (parenthesized text ts h below (i + 1)) _ g e1 (λ test got e2.
        step (below false false test.next) _ g e2 (λ x got' same.
        let p = test_fine (i + 1) test got in
        let q = fine false false test.next x got' in
        fine_of w i x.next (t.While (node_of text ts i x.next) test.tree x.tree) g same (refl, word, test.next, p.0, q.0) (omega (arith, p.1, q.1)))))

    do_fine : (w : Bool) (i : ℕ) (g : Part Stmt) → do_while text ts h below i ≡ Some g → FineStmt w i g
    unfolding do_while
    do_fine w i g e =
        step_keyword ts kw.Do i _ g e (λ word e1.
        step (below false false (i + 1)) _ g e1 (λ x got e2.
        step_keyword ts kw.While x.next _ g e2 (λ word' e3.
        step (parenthesized text ts h below (x.next + 1)) _ g e3 (λ test got' e4.
        step_mark ts m.Semicolon test.next _ g e4 (λ semi same.
        let p = fine false false (i + 1) x got in
        let q = test_fine (x.next + 1) test got' in
        fine_of w i (test.next + 1) (t.Do (node_of text ts i (test.next + 1)) x.tree test.tree) g same (refl, word, x.next, p.0, word', test.next, q.0, semi, refl)
        (omega (arith, p.1, q.1)))))))

    start_fine : (i : ℕ) (g : Part (List Stmt)) → start text ts h below i ≡ Some g → IsStart text ts (stmt_row g.tree) i g.next × (below_stmts (stmt_row g.tree) ≤ h)
    unfolding start IsFirst
    start_fine i g e =
        step_either (is_mark ts m.Semicolon i) _ _ g e
        (λ semi same.
        let is : record { tree = []; next = i } ≡ g = cc in
        subst (λ (x : Part (List Stmt)). IsStart text ts (stmt_row x.tree) i x.next × (below_stmts (stmt_row x.tree) ≤ h)) is (refl, omega arith))
        (λ other e1.
        step_either (read.is_declared text ts i) _ _ g e1
        (λ declared e2.
        step (local text ts (h - 1) i) _ g e2 (λ l got same.
        let is : record { tree = l.tree (node_of text ts i l.next) ∷ []; next = l.next } ≡ g = cc in
        let p = local_fine (h - 1) i l got in
        let tree_is = p.same (node_of text ts i l.next) in
        subst (λ (x : Part (List Stmt)). IsStart text ts (stmt_row x.tree) i x.next × (below_stmts (stmt_row x.tree) ≤ h)) is
        (rw tree_is ((refl, p.spells), omega (arith, p.type_low, p.vars_low)))))
        (λ none e2.
        let r = list_fine text ts (IsFirst (h - 1)) (first text ts (h - 1)) (first_fine (h - 1)) i g e2 in
        let v = firsts_are h r.0 r.1 i r.2 g.next r.4 r.5 in
        rw r.3 (starts_with r.0 r.1 i r.2 g.next r.4 v.0, v.1)))
      where
        starts_with : (x : Stmt) (xs : List Stmt) (i a j : ℕ) → IsFirst (h - 1) x i a → ArePerformedFirst text ts (t.Then x (stmt_row xs)) i j → IsStart text ts (t.Then x (stmt_row xs)) i j
        starts_with x xs i a j (v, is, stmt, p, low) r = rw is (rw is at r)

    update_fine : (i : ℕ) (g : Part (List Expr)) → update text ts h below i ≡ Some g → IsUpdate text ts (row g.tree) i g.next × (below_exprs (row g.tree) ≤ h)
    unfolding update
    update_fine i g e =
        step_either (is_mark ts m.Close i) _ _ g e
        (λ close_is same.
        let is : record { tree = []; next = i } ≡ g = cc in
        subst (λ (x : Part (List Expr)). IsUpdate text ts (row x.tree) i x.next × (below_exprs (row x.tree) ≤ h)) is (refl, omega arith))
        (λ other e1.
        let r = list_fine text ts (IsPerformed h) (performed text ts h) (performed_fine h) i g e1 in
        let v = performed_are h r.0 r.1 i r.2 g.next r.4 r.5 in
        rw r.3 (v.0, v.1))

    counted_fine : (w : Bool) (i : ℕ) (g : Part Stmt) → sort_at ts i ≡ s.Keyword kw.For → sort_at ts (i + 1) ≡ s.Mark m.Open → counted text ts h below i (i + 2) ≡ Some g → FineStmt w i g
    unfolding counted counted_end
    counted_fine w i g word open_is e =
        step (start text ts h below (i + 2)) _ g e (λ xs got e1.
        step_mark ts m.Semicolon xs.next _ g e1 (λ semi e2.
        step (perhaps text ts h below (xs.next + 1)) _ g e2 (λ test got' e3.
        step_mark ts m.Semicolon test.next _ g e3 (λ semi' e4.
        step (update text ts h below (test.next + 1)) _ g e4 (λ es got'' e5.
        step_mark ts m.Close es.next _ g e5 (λ close_is e6.
        step (below false false (es.next + 1)) _ g e6 (λ x last same.
        let p = start_fine (i + 2) xs got in
        let q = perhaps_fine (xs.next + 1) test got' in
        let r = update_fine (test.next + 1) es got'' in
        let u = fine false false (es.next + 1) x last in
        fine_of w i x.next (t.For (node_of text ts i x.next) (stmt_row xs.tree) test.tree (row es.tree) x.tree) g same
        (refl, word, open_is, xs.next, p.0, semi, test.next, q.0, semi', es.next, r.0, close_is, u.0) (omega (arith, p.1, q.1, r.1, u.1)))))))))

    each_fine : (w : Bool) (i : ℕ) (g : Part Stmt) → sort_at ts i ≡ s.Keyword kw.For → sort_at ts (i + 1) ≡ s.Mark m.Open → each text ts h below i (i + 2) ≡ Some g → FineStmt w i g
    unfolding each each_end
    each_fine w i g word open_is e =
        step (type_under text ts h (after_final text ts (i + 2))) _ g e (λ ty got e1.
        step_word ts ty.next _ g e1 (λ name e2.
        step_mark ts m.Colon (ty.next + 1) _ g e2 (λ colon e3.
        step (expr_under text ts h 14 (ty.next + 1 + 1)) _ g e3 (λ over got' e4.
        step_mark ts m.Close over.next _ g e4 (λ close_is e5.
        step (below false false (over.next + 1)) _ g e5 (λ x last same.
        let two : ty.next + 1 + 1 ≡ ty.next + 2 = omega arith in
        let p = types h (after_final text ts (i + 2)) ty got in
        let q = exprs h 14 (omega arith) (ty.next + 1 + 1) over got' in
        let u = fine false false (over.next + 1) x last in
        fine_of w i x.next (t.ForEach (node_of text ts i x.next) (is_keyword ts kw.Final (i + 2)) ty.tree (record { 0 = name_at ts ty.next }) over.tree x.tree) g same (
          refl,
          word,
          open_is,
          after_final text ts (i + 2),
          final_says (i + 2),
          ty.next,
          p.0,
          (name, refl),
          colon,
          over.next,
          subst (λ b. Spells text ts 14 over.tree b over.next) two q.0,
          close_is,
          u.0,
        ) (omega (arith, p.1, q.1, u.1))))))))

    for_fine : (w : Bool) (i : ℕ) (g : Part Stmt) → for_stmt text ts h below i ≡ Some g → FineStmt w i g
    unfolding for_stmt
    for_fine w i g e =
        step_keyword ts kw.For i _ g e (λ word e1.
        step_mark ts m.Open (i + 1) _ g e1 (λ open_is e2.
        let two : i + 1 + 1 ≡ i + 2 = omega arith in
        step_either (read.is_each text ts (i + 1 + 1)) _ _ g e2
        (λ is e3. each_fine w i g word open_is (subst (λ b. each text ts h below i b ≡ Some g) two e3))
        (λ is e3. counted_fine w i g word open_is (subst (λ b. counted text ts h below i b ≡ Some g) two e3))))

    switch_fine : (w : Bool) (i : ℕ) (g : Part Stmt) → switch_stmt text ts h below i ≡ Some g → FineStmt w i g
    unfolding switch_stmt
    switch_fine w i g e =
        step_keyword ts kw.Switch i _ g e (λ word e1.
        step (parenthesized text ts h below (i + 1)) _ g e1 (λ test got e2.
        step_mark ts m.LeftBrace test.next _ g e2 (λ open_is e3.
        step (groups text ts h below (test.next + 1)) _ g e3 (λ gs got' e4.
        step_mark ts m.RightBrace gs.next _ g e4 (λ close_is same.
        let p = test_fine (i + 1) test got in
        let some : 0 < h = omega (arith, p.1) in
        let q = groups_fine (test.next + 1) gs some got' in
        fine_of w i (gs.next + 1) (t.Switch (node_of text ts i (gs.next + 1)) test.tree (group_row gs.tree)) g same
        (refl, word, test.next, p.0, open_is, gs.next, q.0, close_is, refl) (omega (arith, p.1, q.1)))))))

    break_fine : (w : Bool) (i : ℕ) (g : Part Stmt) → break_stmt text ts h below i ≡ Some g → FineStmt w i g
    unfolding break_stmt
    break_fine w i g e =
        step_keyword ts kw.Break i _ g e (λ word e1.
        step_mark ts m.Semicolon (i + 1) _ g e1 (λ semi same.
        fine_of w i (i + 1 + 1) (t.Break (node_of text ts i (i + 1 + 1))) g same (refl, word, semi, omega arith) (omega arith)))

    continue_fine : (w : Bool) (i : ℕ) (g : Part Stmt) → continue_stmt text ts h below i ≡ Some g → FineStmt w i g
    unfolding continue_stmt
    continue_fine w i g e =
        step_keyword ts kw.Continue i _ g e (λ word e1.
        step_mark ts m.Semicolon (i + 1) _ g e1 (λ semi same.
        fine_of w i (i + 1 + 1) (t.Continue (node_of text ts i (i + 1 + 1))) g same (refl, word, semi, omega arith) (omega arith)))

    return_fine : (w : Bool) (i : ℕ) (g : Part Stmt) → return_stmt text ts h below i ≡ Some g → FineStmt w i g
    unfolding return_stmt
    return_fine w i g e =
        step_keyword ts kw.Return i _ g e (λ word e1.
        step (perhaps text ts h below (i + 1)) _ g e1 (λ one got e2.
        step_mark ts m.Semicolon one.next _ g e2 (λ semi same.
        let p = perhaps_fine (i + 1) one got in
        fine_of w i (one.next + 1) (t.Return (node_of text ts i (one.next + 1)) one.tree) g same (refl, word, one.next, p.0, semi, refl) (omega (arith, p.1)))))

    throw_fine : (w : Bool) (i : ℕ) (g : Part Stmt) → throw_stmt text ts h below i ≡ Some g → FineStmt w i g
    unfolding throw_stmt
    throw_fine w i g e =
        step_keyword ts kw.Throw i _ g e (λ word e1.
        step (expr_under text ts h 14 (i + 1)) _ g e1 (λ one got e2.
        step_mark ts m.Semicolon one.next _ g e2 (λ semi same.
        let p = exprs h 14 (omega arith) (i + 1) one got in
        fine_of w i (one.next + 1) (t.Throw (node_of text ts i (one.next + 1)) one.tree) g same (refl, word, one.next, p.0, semi, refl) (omega (arith, p.1)))))

    no_try_part : (i : ℕ) → is_try_part text ts i ≡ false → (sort_at ts i ≢ s.Keyword kw.Catch) × (sort_at ts i ≢ s.Keyword kw.Finally)
    unfolding is_try_part
    no_try_part i e =
        none_true (is_keyword ts kw.Catch i) (is_keyword ts kw.Finally i) e (λ a b.
        (λ is. let both = sym a ∙ is_keyword_has ts kw.Catch i is in cc, λ is. let both = sym b ∙ is_keyword_has ts kw.Finally i is in cc))

    no_catch_says : (i : ℕ) → is_no_catch text ts i ≡ true → sort_at ts i ≢ s.Keyword kw.Catch
    unfolding is_no_catch
    no_catch_says i e is = let so : not true ≡ true = rw (is_keyword_has ts kw.Catch i is) at e in cc

    try_fine : (w : Bool) (i : ℕ) (g : Part Stmt) → try_stmt text ts h below i ≡ Some g → FineStmt w i g
    unfolding try_stmt with_last without_last is_empty
    try_fine w i g e =
        step_keyword ts kw.Try i _ g e (λ word e1.
        step (block_in text ts h below false (i + 1)) _ g e1 (λ x got e2.
        step (catches text ts h below x.next) _ g e2 (λ cs got' e3.
        let p = block_in_fine false (i + 1) x got in
        let q = catches_fine x.next cs got' in
        step_given (after_keyword ts kw.Finally cs.next) _ _ g e3
        (λ a there e4.
        let at = after_keyword_says ts kw.Finally cs.next a there in
        step (block_in text ts h below false a) _ g e4 (λ y got'' e5.
        step_unless (is_try_part text ts y.next) _ g e5 (λ none same.
        let r = block_in_fine false a y got'' in
        let ends = no_try_part y.next none in
        fine_of w i y.next (t.Try (node_of text ts i y.next) x.tree (catch_row cs.tree) (t.AStmt y.tree)) g same
        (refl, word, p.0, x.next, p.1, cs.next, q.spells, (at.0, r.0, subst (λ b. SpellsStmt text ts false y.tree b y.next) at.1 r.1), ends.0, ends.1)
        (omega (arith, p.2, q.low, r.2)))))
        (λ none e4.
        step_unless (is_empty cs.tree) _ g e4 (λ some same.
        fine_of w i cs.next (t.Try (node_of text ts i cs.next) x.tree (catch_row cs.tree) t.NoStmt) g same
        (refl, word, p.0, x.next, p.1, cs.next, q.spells, last_is cs.tree cs.next some, no_catch_says cs.next q.stop, no_keyword kw.Finally cs.next none)
        (omega (arith, p.2, q.low)))))))
      where
        last_is : (cs : List Catch) (j : ℕ) → is_empty cs ≡ false → IsLast text ts (catch_row cs) t.NoStmt j j
        last_is [] j e = absurd (cc)
        last_is (c ∷ cs) j e = refl

    this_call_fine : (w : Bool) (i : ℕ) (g : Part Stmt) → this_call text ts h below i ≡ Some g → FineStmt w i g
    unfolding this_call
    this_call_fine w i g e =
        step_keyword ts kw.This i _ g e (λ word e1.
        step_mark ts m.Open (i + 1) _ g e1 (λ open_is e2.
        step (values text ts h (i + 1 + 1)) _ g e2 (λ es got e3.
        step_mark ts m.Semicolon es.next _ g e3 (λ semi same.
        let two : i + 1 + 1 ≡ i + 2 = omega arith in
        let p = values_fine h (i + 1 + 1) es got in
        fine_of w i (es.next + 1) (t.ThisCall (node_of text ts i (es.next + 1)) (row es.tree)) g same
        (refl, word, open_is, es.next, subst (λ b. AreValues text ts (row es.tree) b es.next) two p.0, semi, refl) (omega (arith, p.1))))))

    super_call_fine : (w : Bool) (i : ℕ) (g : Part Stmt) → super_call text ts h below i ≡ Some g → FineStmt w i g
    unfolding super_call
    super_call_fine w i g e =
        step_keyword ts kw.Super i _ g e (λ word e1.
        step_mark ts m.Open (i + 1) _ g e1 (λ open_is e2.
        step (values text ts h (i + 1 + 1)) _ g e2 (λ es got e3.
        step_mark ts m.Semicolon es.next _ g e3 (λ semi same.
        let two : i + 1 + 1 ≡ i + 2 = omega arith in
        let p = values_fine h (i + 1 + 1) es got in
        fine_of w i (es.next + 1) (t.SuperCall (node_of text ts i (es.next + 1)) (row es.tree)) g same
        (refl, word, open_is, es.next, subst (λ b. AreValues text ts (row es.tree) b es.next) two p.0, semi, refl) (omega (arith, p.1))))))

    this_fine : (w : Bool) (i : ℕ) (g : Part Stmt) → this_stmt text ts h below i ≡ Some g → FineStmt w i g
    unfolding this_stmt
    this_fine w i g e = step_either (is_mark ts m.Open (i + 1)) _ _ g e (λ a e. this_call_fine w i g e) (λ a e. value_fine w i g e)

    super_fine : (w : Bool) (i : ℕ) (g : Part Stmt) → super_stmt text ts h below i ≡ Some g → FineStmt w i g
    unfolding super_stmt
    super_fine w i g e = step_either (is_mark ts m.Open (i + 1)) _ _ g e (λ a e. super_call_fine w i g e) (λ a e. value_fine w i g e)

    other_fine : (w : Bool) (i : ℕ) (g : Part Stmt) → other text ts h below w i ≡ Some g → FineStmt w i g
    unfolding other
    other_fine true i g e = step_either (read.is_declared text ts i) _ _ g e (λ a e. local_stmt_fine i g e) (λ a e. value_fine true i g e)
    other_fine false i g e = value_fine false i g e

    pub level_fine : (w : Bool) (i : ℕ) (g : Part Stmt) → level text ts h below w i ≡ Some g → SpellsStmt text ts w g.tree i g.next × (stmt_depth g.tree ≤ h)
    unfolding level
    level_fine w i g e = let p = by_case (sort_at ts i) e in (p.spells, p.low)
      where
        by_case : (x : Sort) → by_sort text ts h below w x i ≡ Some g → FineStmt w i g
        by_case (s.Mark m.LeftBrace) e = block_fine w i g e
        by_case (s.Mark m.Semicolon) e = empty_fine w i g e
        by_case (s.Keyword kw.If) e = choice_fine w i g e
        by_case (s.Keyword kw.While) e = while_fine w i g e
        by_case (s.Keyword kw.Do) e = do_fine w i g e
        by_case (s.Keyword kw.For) e = for_fine w i g e
        by_case (s.Keyword kw.Switch) e = switch_fine w i g e
        by_case (s.Keyword kw.Break) e = break_fine w i g e
        by_case (s.Keyword kw.Continue) e = continue_fine w i g e
        by_case (s.Keyword kw.Return) e = return_fine w i g e
        by_case (s.Keyword kw.Throw) e = throw_fine w i g e
        by_case (s.Keyword kw.Try) e = try_fine w i g e
        by_case (s.Keyword kw.This) e = this_fine w i g e
        by_case (s.Keyword kw.Super) e = super_fine w i g e
        by_case _ e = other_fine w i g e

  pub under_fine : (h : ℕ) (inner w : Bool) (i : ℕ) (g : Part Stmt) → under text ts h inner w i ≡ Some g → SpellsStmt text ts w g.tree i g.next × (stmt_depth g.tree < lower inner h)
  unfolding under
  under_fine zero inner w i g e = absurd (cc)
  under_fine (suc h) true w i g e = let p = under_fine h false w i g e in (p.0, omega (arith, p.1))
  under_fine (suc h) false w i g e = let p = level_fine h (under text ts h) (λ inner w i g e. under_fine h inner w i g e) w i g e in (p.0, omega (arith, p.1))
