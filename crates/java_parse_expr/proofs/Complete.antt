-- What is in the grammar is read.
use Rattle.std.proofs.Common.{◌≡◌, ◌≢◌, ℕ, zero, suc, ◌+◌, ◌-◌, ◌<◌, ◌≤◌, Bool, true, false, List, [], ◌∷◌, length, Option, Some, None, refl, sym, ap, subst, ◌∙◌, arith, ◌⊎◌, inl, inr}
use Rattle.java_tree.specs.declared.tree.Node.{Node}
use Rattle.java_tree.specs.declared.tree.Name.{Name}
use Rattle.java_tree.specs.declared.tree.UnOp.TheVariants as un
use Rattle.java_tree.specs.Plain as t
use Rattle.java_tree.specs.Plain.{TypeExpr, Expr, Exprs, Var, Param, Stmt, MaybeStmt, Stmts, Group, Groups, Catch, Catches}
use Rattle.java_tree.specs.View.{row, stmt_row, group_row, catch_row}
use Rattle.java_grammar.specs.declared.token.Tok.{Tok}
use Rattle.java_grammar.specs.declared.token.Sort.{Sort}
use Rattle.java_grammar.specs.declared.token.Sort.TheVariants as s
use Rattle.java_grammar.specs.declared.token.Keyword.TheVariants as kw
use Rattle.java_grammar.specs.declared.token.Mark.{Mark}
use Rattle.java_grammar.specs.declared.token.Mark.TheVariants as m
use Rattle.java_grammar.specs.Reads.{sort_at, name_at}
use Rattle.java_grammar.specs.Heights.{type_depth, expr_depth, below_exprs, below_init, below_vars, below_labels, stmt_depth, below_stmts, group_depth, below_groups, catch_depth, below_catches}
use Rattle.java_grammar.specs.Expressions.{node_of, AreBrackets, SpellsType, Spells, AreValues, AreMoreValues, EndsAt}
use Rattle.java_grammar.specs.Statements.{IsStatement, IsBlock, IsFinal, IsInit, IsVar, AreVars, IsParam, IsLocal, IsTest, IsMaybe, ArePerformed, ArePerformedFirst, IsStart, IsUpdate, IsConstant, IsLabelValue, IsLabel, AreLabels, SpellsStmt, AreStmts, IsGroup, AreGroups, IsCatch, AreCatches, IsLast}
use Rattle.java_parse_term.specs.Marks.{◌>>=◌, is_mark, is_keyword, after_word}
use Rattle.java_parse_term.specs.Types.{type_end, pair_end}
use Rattle.java_parse_term.proofs.Steps.{is_mark_has, is_mark_not, is_keyword_has, is_keyword_not, after_mark_has, after_mark_not, after_keyword_has, after_keyword_not, after_word_has, after_word_says}
use Rattle.java_parse_term.proofs.TypesComplete.{within, closed_at, brackets_from, name_is}
use Rattle.java_parse_expr.specs.Parse.{Part, is_statement, is_constant, is_label_value, is_empty, equals_in, after_equals, is_label, is_no_label, is_no_catch, is_try_part, is_stop, after_final, after_name, is_declared, is_each, type_under, expr_under, list_of, values, init, var, vars, local, param, performed, first, parenthesized, perhaps, stmts, block_in, case_label, default_label, label, more_labels, labels, group, groups, caught, catches, block, empty, local_stmt, value, otherwise, choice, while_stmt, do_while, start, update, counted_end, counted, each_end, each, for_stmt, switch_stmt, break_stmt, continue_stmt, return_stmt, throw_stmt, with_last, without_last, try_stmt, this_call, super_call, this_stmt, super_stmt, other, by_sort, level, under}
use Rattle.java_parse_expr.proofs.Begins.{begins, may_begin, no_begin, type_begin, type_begins, local_begin, local_begins, no_stmt, block_begins}
use Rattle.java_parse_expr.proofs.Declared.{is_self, statement_no_type, statement_no_call}
use Rattle.java_parse_expr.proofs.Lists.{Rest, Run, got, list_again, many_again}
use Rattle.java_parse_expr.proofs.Sound.{lower}

-- ---- tests of trees

statement_has : (e : Expr) → IsStatement e → is_statement e ≡ true
unfolding is_statement
statement_has (t.Assign n x e f) h = refl
statement_has (t.Step n up before e) h = refl
statement_has (t.Call n of x es) h = refl
statement_has (t.SuperMethod n x es) h = refl
statement_has (t.New n ty es) h = refl
statement_has _ h = absurd h

-- ---- lists of trees

abbrev expr_items : Exprs → List Expr
expr_items t.End = []
expr_items (t.Also x xs) = x ∷ expr_items xs

expr_row : (xs : Exprs) → row (expr_items xs) ≡ xs
expr_row t.End = refl
expr_row (t.Also x xs) = ap (t.Also x) (expr_row xs)

abbrev stmt_items : Stmts → List Stmt
stmt_items t.Last = []
stmt_items (t.Then x xs) = x ∷ stmt_items xs

stmt_row_is : (xs : Stmts) → stmt_row (stmt_items xs) ≡ xs
stmt_row_is t.Last = refl
stmt_row_is (t.Then x xs) = ap (t.Then x) (stmt_row_is xs)

abbrev group_items : Groups → List Group
group_items t.NoGroup = []
group_items (t.AndGroup x xs) = x ∷ group_items xs

group_row_is : (xs : Groups) → group_row (group_items xs) ≡ xs
group_row_is t.NoGroup = refl
group_row_is (t.AndGroup x xs) = ap (t.AndGroup x) (group_row_is xs)

abbrev catch_items : Catches → List Catch
catch_items t.NoCatch = []
catch_items (t.AndCatch x xs) = x ∷ catch_items xs

catch_row_is : (xs : Catches) → catch_row (catch_items xs) ≡ xs
catch_row_is t.NoCatch = refl
catch_row_is (t.AndCatch x xs) = ap (t.AndCatch x) (catch_row_is xs)

module _ (text : List ℕ) (ts : List Tok)
    (types : (d : ℕ) (x : TypeExpr) (i j : ℕ) → SpellsType text ts x i j → type_depth x < d → sort_at ts j ≡ s.Word → type_under text ts d i ≡ got x j)
    (scans : (x : TypeExpr) (i j : ℕ) → SpellsType text ts x i j → sort_at ts j ≡ s.Word → type_end ts i ≡ Some j)
    (scanned : (i j : ℕ) → type_end ts i ≡ Some j → (x : TypeExpr) × SpellsType text ts x i j)
    (exprs : (d k : ℕ) → 2 ≤ k → k ≤ 15 → (e : Expr) (i j : ℕ) → Spells text ts k e i j → expr_depth e < d → EndsAt text ts (sort_at ts j) → expr_under text ts d k i ≡ got e j)
    (types_on : (x : TypeExpr) (i j : ℕ) → SpellsType text ts x i j → i < j)
    (exprs_on : (k : ℕ) (e : Expr) (i j : ℕ) → Spells text ts k e i j → i < j) where
  constant_has : (e : Expr) → IsConstant text ts e → is_constant e ≡ true
  unfolding is_constant
  constant_has (t.Number n v d l) h = rw h refl
  constant_has (t.Char n c) h = refl
  constant_has _ h = absurd h

  label_value_has : (e : Expr) → IsLabelValue text ts e → is_label_value e ≡ true
  unfolding is_label_value is_constant
  label_value_has (t.Unary n un.Minus e) h = constant_has e h
  label_value_has (t.Unary n un.Plus e) h = absurd h
  label_value_has (t.Unary n un.Invert e) h = absurd h
  label_value_has (t.Unary n un.Not e) h = absurd h
  label_value_has (t.Number n v d l) h = rw h refl
  label_value_has (t.Char n c) h = refl
  label_value_has _ h = absurd h

  -- ---- tokens

  differ : {Z : Type 0} (i : ℕ) (x y : Sort) → sort_at ts i ≡ x → sort_at ts i ≡ y → (x ≢ y) → Z
  differ i x y a b other = absurd (other (sym a ∙ b))

  equals_has : (i : ℕ) → sort_at ts i ≡ s.Assign None → after_equals text ts i ≡ Some (i + 1)
  unfolding after_equals
  equals_has i e = rw e refl

  equals_not : (i : ℕ) → EndsAt text ts (sort_at ts i) → after_equals text ts i ≡ None
  unfolding after_equals
  equals_not i e = rw (by_sort (sort_at ts i) e) refl
    where
      by_sort : (x : Sort) → EndsAt text ts x → equals_in x ≡ false
      by_sort (s.Assign None) e = absurd e
      by_sort _ e = refl

  -- brackets end there
  pub no_pair : (i : ℕ) → (sort_at ts i ≡ s.Assign None) ⊎ EndsAt text ts (sort_at ts i) → pair_end ts i ≡ None
  no_pair i (inl e) = (closed_at ts i (s.Assign None) e (λ e. cc) (λ e. cc) (λ e. cc)).no_pair
  no_pair i (inr e) = by_sort (sort_at ts i) refl e
    where
      by_sort : (x : Sort) → sort_at ts i ≡ x → EndsAt text ts x → pair_end ts i ≡ None
      by_sort s.End is e = (closed_at ts i s.End is (λ e. cc) (λ e. cc) (λ e. cc)).no_pair
      by_sort (s.Mark m.Close) is e = (closed_at ts i (s.Mark m.Close) is (λ e. cc) (λ e. cc) (λ e. cc)).no_pair
      by_sort (s.Mark m.RightBracket) is e = (closed_at ts i (s.Mark m.RightBracket) is (λ e. cc) (λ e. cc) (λ e. cc)).no_pair
      by_sort (s.Mark m.RightBrace) is e = (closed_at ts i (s.Mark m.RightBrace) is (λ e. cc) (λ e. cc) (λ e. cc)).no_pair
      by_sort (s.Mark m.Comma) is e = (closed_at ts i (s.Mark m.Comma) is (λ e. cc) (λ e. cc) (λ e. cc)).no_pair
      by_sort (s.Mark m.Semicolon) is e = (closed_at ts i (s.Mark m.Semicolon) is (λ e. cc) (λ e. cc) (λ e. cc)).no_pair
      by_sort (s.Mark m.Colon) is e = (closed_at ts i (s.Mark m.Colon) is (λ e. cc) (λ e. cc) (λ e. cc)).no_pair
      by_sort _ is e = absurd e

  pub final_again : (f : Bool) (i a : ℕ) → IsFinal text ts f i a → type_begin (sort_at ts a) ≡ true → (is_keyword ts kw.Final i ≡ f) × (after_final text ts i ≡ a)
  unfolding after_final
  final_again true i a (is, next) ty = (is_keyword_has ts kw.Final i is, rw (after_keyword_has ts kw.Final i is, next) refl)
  final_again false i a next ty =
      let none : sort_at ts i ≢ s.Keyword kw.Final = λ e. (let so : false ≡ true = subst (λ x. type_begin x ≡ true) e (rw next at ty) in cc) in
      (is_keyword_not ts kw.Final i none, rw (after_keyword_not ts kw.Final i none) (sym next))

  -- ---- parts of statements

  IsExpr : ℕ → Expr → ℕ → ℕ → Type 0
  IsExpr d e i j = Spells text ts 14 e i j × (expr_depth e < d) × EndsAt text ts (sort_at ts j)

  values_end : (es : Exprs) (i j : ℕ) → AreMoreValues text ts es i j → EndsAt text ts (sort_at ts i)
  values_end t.End i j p = rw p.0 tt
  values_end (t.Also e es) i j p = rw p.0 tt

  values_rest : (d : ℕ) (es : Exprs) (i j : ℕ) → AreMoreValues text ts es i j → below_exprs es ≤ d → (b : ℕ) × Rest text ts (IsExpr d) (expr_items es) i b × (sort_at ts b ≡ s.Mark m.Close) × (j ≡ b + 1)
  unfolding IsExpr
  values_rest d t.End i j p low = (i, refl, p.0, p.1)
  values_rest d (t.Also e es) i j (comma, a, p, r) low =
      let v = values_rest d es a j r (omega arith) in
      (v.0, (comma, a, (p, omega arith, values_end es a j r), v.1), v.2, v.3)

  values_again : (d : ℕ) (es : Exprs) (i j : ℕ) → AreValues text ts es i j → below_exprs es ≤ d → values text ts d i ≡ got (expr_items es) j
  unfolding values IsExpr
  values_again d t.End i j (close_is, next) low = rw (after_mark_has ts m.Close i close_is, next) refl
  values_again d (t.Also e es) i j (a, p, r) low =
      let v = values_rest d es a j r (omega arith) in
      from_rest a v.0 p (omega arith) (values_end es a j r) v.1 v.2 v.3
    where
      from_rest : (a b : ℕ) → Spells text ts 14 e i a → expr_depth e < d → EndsAt text ts (sort_at ts a)
          → Rest text ts (λ e i j. Spells text ts 14 e i j × (expr_depth e < d) × EndsAt text ts (sort_at ts j)) (expr_items es) a b → sort_at ts b ≡ s.Mark m.Close → j ≡ b + 1
          → values text ts d i ≡ got (e ∷ expr_items es) j
      from_rest a b p low ends r close_is next =
          let none : sort_at ts i ≢ s.Mark m.Close = λ is. no_begin text ts 14 e i a (s.Mark m.Close) (omega arith) p is refl in
          let here = within ts b (s.Mark m.Close) close_is (λ e. cc) in
          let all = list_again text ts (IsExpr d) (expr_under text ts d 14) (λ e i j p. exprs d 14 (omega arith) (omega arith) e i j p.0 p.1 p.2) (λ e i j p. exprs_on 14 e i j p.0) e (expr_items es) i a b
          (p, low, ends) r (λ is. differ b (s.Mark m.Close) (s.Mark m.Comma) close_is is (λ e. cc)) (omega (arith, here)) in
          rw (after_mark_not ts m.Close i none, all, after_mark_has ts m.Close b close_is, next) refl

  init_again : (d : ℕ) (e : Option Expr) (i j : ℕ) → IsInit text ts e i j → below_init e ≤ d → EndsAt text ts (sort_at ts j) → init text ts d i ≡ got e j
  unfolding init
  init_again d None i j next low ends = rw (equals_not i (rw (← next) ends), next) refl
  init_again d (Some e) i j (is, p) low ends = rw (equals_has i is, exprs d 15 (omega arith) (omega arith) e (i + 1) j p (omega arith) ends) refl

  IsVarBelow : ℕ → Var → ℕ → ℕ → Type 0
  IsVarBelow d x i j = IsVar text ts x i j × (below_init x.init + 1 ≤ d) × EndsAt text ts (sort_at ts j)

  init_front : (e : Option Expr) (i j : ℕ) → IsInit text ts e i j → EndsAt text ts (sort_at ts j) → (sort_at ts i ≡ s.Assign None) ⊎ EndsAt text ts (sort_at ts i)
  init_front None i j next ends = inr (rw (← next) ends)
  init_front (Some e) i j p ends = inl p.0

  var_again : (d : ℕ) (x : Var) (i j : ℕ) → IsVarBelow d x i j → var text ts d i ≡ got x j
  unfolding var IsVarBelow
  var_again d x i j (p, low, ends) =
      let dims = brackets_from text ts x.dims (i + 1) p.end p.brackets (no_pair p.end (init_front x.init p.end j p.init ends)) in
      let name : x.name ≡ record { 0 = name_at ts i } = name_is x.name (name_at ts i) p.name.1 in
      rw (after_word_has ts i p.name.0, dims, init_again (d - 1) x.init p.end j p.init (omega arith) ends)
      (ap (λ (v : Var). got v j) (same_var x (node_of text ts i j) (record { 0 = name_at ts i }) p.node name))
    where
      same_var : (x : Var) (n : Node) (y : Name) → x.node ≡ n → x.name ≡ y → record { node = n; name = y; dims = x.dims; init = x.init } ≡ x
      same_var x n y a b = rw (← a, ← b) refl

  brackets_on : (d i j : ℕ) → AreBrackets text ts d i j → i ≤ j
  brackets_on zero i j h = omega arith
  brackets_on (suc d) i j (a, b, h) = let on = brackets_on d (i + 2) j h in omega arith

  init_on : (e : Option Expr) (i j : ℕ) → IsInit text ts e i j → i ≤ j
  init_on None i j next = omega arith
  init_on (Some e) i j (is, p) = let on = exprs_on 15 e (i + 1) j p in omega arith

  var_on : (x : Var) (i j : ℕ) → IsVar text ts x i j → i < j
  var_on x i j p = omega (arith, brackets_on x.dims (i + 1) p.end p.brackets, init_on x.init p.end j p.init)

  vars_rest : (d : ℕ) (x : Var) (xs : List Var) (i j : ℕ) → AreVars text ts (x ∷ xs) i j → below_vars (x ∷ xs) ≤ d → sort_at ts j ≡ s.Mark m.Semicolon
      → (a : ℕ) × IsVarBelow d x i a × Rest text ts (IsVarBelow d) xs a j
  unfolding IsVarBelow
  vars_rest d x [] i j p low semi = (j, (p, omega arith, rw semi tt), refl)
  vars_rest d x (y ∷ ys) i j (a, p, comma, r) low semi =
      let v = vars_rest d y ys (a + 1) j r (omega arith) semi in
      (a, (p, omega arith, rw comma tt), (comma, v.0, v.1, v.2))

  pub vars_again : (d : ℕ) (xs : List Var) (i j : ℕ) → AreVars text ts xs i j → below_vars xs ≤ d → sort_at ts j ≡ s.Mark m.Semicolon → vars text ts d i ≡ got xs j
  unfolding vars IsVarBelow
  vars_again d [] i j p low semi = absurd p
  vars_again d (x ∷ xs) i j p low semi =
      let v = vars_rest d x xs i j p low semi in
      let here = within ts j (s.Mark m.Semicolon) semi (λ e. cc) in
      list_again text ts (IsVarBelow d) (var text ts d) (var_again d) (λ x i j p. var_on x i j p.0) x xs i v.0 j v.1 v.2
      (λ is. differ j (s.Mark m.Semicolon) (s.Mark m.Comma) semi is (λ e. cc)) (omega (arith, here))

  pub vars_word : (xs : List Var) (i j : ℕ) → AreVars text ts xs i j → sort_at ts i ≡ s.Word
  vars_word [] i j p = absurd p
  vars_word (x ∷ []) i j p = let id = p.name in id.0
  vars_word (x ∷ y ∷ ys) i j p = let v = p.1 in let id = v.name in id.0

  local_again : (d : ℕ) (f : Bool) (ty : TypeExpr) (vs : List Var) (i j : ℕ) → IsLocal text ts f ty vs i j → type_depth ty < d → below_vars vs ≤ d → sort_at ts j ≡ s.Mark m.Semicolon
      → local text ts d i ≡ got (λ n. t.Local n f ty vs) j
  unfolding local
  local_again d f ty vs i j (a, final, b, p, q) low low' semi =
      let fin = final_again f i a final (type_begins text ts ty a b p) in
      rw (fin.1, types d ty a b p low (vars_word vs b j q), vars_again d vs b j q low' semi, fin.0) refl

  param_again : (d : ℕ) (x : Param) (i j : ℕ) → IsParam text ts x i j → type_depth x.ty < d → sort_at ts j ≡ s.Mark m.Close → param text ts d i ≡ got x j
  unfolding param
  param_again d x i j p low close_is =
      let fin = final_again x.is_final i p.begin p.final (type_begins text ts x.ty p.begin p.name_at p.type) in
      let dims = brackets_from text ts x.dims (p.name_at + 1) j p.brackets (no_pair j (inr (rw close_is tt))) in
      let name : x.name ≡ record { 0 = name_at ts p.name_at } = name_is x.name (name_at ts p.name_at) p.name.1 in
      rw (fin.1, types d x.ty p.begin p.name_at p.type low p.name.0, after_word_has ts p.name_at p.name.0, dims, fin.0)
      (ap (λ (v : Param). got v j) (same_param x (node_of text ts i j) (record { 0 = name_at ts p.name_at }) p.node name))
    where
      same_param : (x : Param) (n : Node) (y : Name) → x.node ≡ n → x.name ≡ y → record { node = n; is_final = x.is_final; ty = x.ty; name = y; dims = x.dims } ≡ x
      same_param x n y a b = rw (← a, ← b) refl

  -- ---- expressions that are statements

  IsPerformed : ℕ → Expr → ℕ → ℕ → Type 0
  IsPerformed d e i j = IsStatement e × Spells text ts 14 e i j × (expr_depth e < d) × EndsAt text ts (sort_at ts j)

  performed_again : (d : ℕ) (e : Expr) (i j : ℕ) → IsPerformed d e i j → performed text ts d i ≡ got e j
  unfolding performed IsPerformed
  performed_again d e i j (stmt, p, low, ends) = rw (exprs d 14 (omega arith) (omega arith) e i j p low ends, statement_has e stmt) refl

  performed_rest : (d : ℕ) (e : Expr) (es : Exprs) (i j : ℕ) → ArePerformed text ts (t.Also e es) i j → below_exprs (t.Also e es) ≤ d → sort_at ts j ≡ s.Mark m.Close
      → (a : ℕ) × IsPerformed d e i a × Rest text ts (IsPerformed d) (expr_items es) a j
  unfolding IsPerformed
  performed_rest d e t.End i j (stmt, p) low close_is = (j, (stmt, p, omega arith, rw close_is tt), refl)
  performed_rest d e (t.Also f es) i j (stmt, a, p, comma, r) low close_is =
      let v = performed_rest d f es (a + 1) j r (omega arith) close_is in
      (a, (stmt, p, omega arith, rw comma tt), (comma, v.0, v.1, v.2))

  performed_list : (d : ℕ) (e : Expr) (es : Exprs) (i j : ℕ) → ArePerformed text ts (t.Also e es) i j → below_exprs (t.Also e es) ≤ d → sort_at ts j ≡ s.Mark m.Close
      → list_of text ts (performed text ts d) i ≡ got (e ∷ expr_items es) j
  unfolding IsPerformed
  performed_list d e es i j p low close_is =
      let v = performed_rest d e es i j p low close_is in
      let here = within ts j (s.Mark m.Close) close_is (λ e. cc) in
      list_again text ts (IsPerformed d) (performed text ts d) (performed_again d) (λ e i j p. exprs_on 14 e i j p.1) e (expr_items es) i v.0 j v.1 v.2
      (λ is. differ j (s.Mark m.Close) (s.Mark m.Comma) close_is is (λ e. cc)) (omega (arith, here))

  record IsFirst (d : ℕ) (x : Stmt) (i j : ℕ) : Type 0 where
    expr : Expr
    same : t.Value (node_of text ts i j) expr ≡ x
    stmt : IsStatement expr
    spells : Spells text ts 14 expr i j
    low : expr_depth expr < d
    ends : EndsAt text ts (sort_at ts j)

  first_again : (d : ℕ) (x : Stmt) (i j : ℕ) → IsFirst d x i j → first text ts d i ≡ got x j
  unfolding first IsPerformed
  first_again d x i j p = rw (performed_again d p.expr i j (p.stmt, p.spells, p.low, p.ends)) (ap (λ y. got y j) p.same)

  record FirstRest (d : ℕ) (x : Stmt) (xs : Stmts) (i j : ℕ) : Type 0 where
    end : ℕ
    one : IsFirst d x i end
    rest : Rest text ts (IsFirst d) (stmt_items xs) end j

  firsts_rest : (h : ℕ) (x : Stmt) (xs : Stmts) (i j : ℕ) → ArePerformedFirst text ts (t.Then x xs) i j → below_stmts (t.Then x xs) ≤ h → sort_at ts j ≡ s.Mark m.Semicolon
      → FirstRest (h - 1) x xs i j
  firsts_rest h (t.Value n e) t.Last i j (node, stmt, p) low semi =
      record { end = j; one = record { expr = e; same = rw node refl; stmt = stmt; spells = p; low = omega arith; ends = rw semi tt }; rest = refl }
  firsts_rest h (t.Value n e) (t.Then y ys) i j (a, node, stmt, p, comma, r) low semi =
      let v = firsts_rest h y ys (a + 1) j r (omega arith) semi in
      record { end = a; one = record { expr = e; same = rw node refl; stmt = stmt; spells = p; low = omega arith; ends = rw comma tt }; rest = (comma, v.end, v.one, v.rest) }
  firsts_rest h _ xs i j p low semi = absurd p

  firsts_list : (h : ℕ) (x : Stmt) (xs : Stmts) (i j : ℕ) → ArePerformedFirst text ts (t.Then x xs) i j → below_stmts (t.Then x xs) ≤ h → sort_at ts j ≡ s.Mark m.Semicolon
      → list_of text ts (first text ts (h - 1)) i ≡ got (x ∷ stmt_items xs) j
  firsts_list h x xs i j p low semi =
      let v = firsts_rest h x xs i j p low semi in
      let here = within ts j (s.Mark m.Semicolon) semi (λ e. cc) in
      list_again text ts (IsFirst (h - 1)) (first text ts (h - 1)) (first_again (h - 1)) (λ x i j p. exprs_on 14 p.expr i j p.spells) x (stmt_items xs) i v.end j v.one v.rest
      (λ is. differ j (s.Mark m.Semicolon) (s.Mark m.Comma) semi is (λ e. cc)) (omega (arith, here))

  -- ---- declared or not

  declared_name : (f : Bool) (ty : TypeExpr) (i a b : ℕ) → IsFinal text ts f i a → SpellsType text ts ty a b → sort_at ts b ≡ s.Word → after_name text ts i ≡ Some (b + 1)
  unfolding after_name
  declared_name f ty i a b final p word =
      let fin = final_again f i a final (type_begins text ts ty a b p) in
      rw (fin.1, scans ty a b p word, after_word_has ts b word) refl

  declared_has : (i a : ℕ) → after_name text ts i ≡ Some a → is_declared text ts i ≡ true
  unfolding is_declared
  declared_has i a e = rw e refl

  each_has : (i a : ℕ) → after_name text ts i ≡ Some a → sort_at ts a ≡ s.Mark m.Colon → is_each text ts i ≡ true
  unfolding is_each
  each_has i a e colon = rw e (is_mark_has ts m.Colon a colon)

  each_not : (i a : ℕ) → after_name text ts i ≡ Some a → sort_at ts a ≢ s.Mark m.Colon → is_each text ts i ≡ false
  unfolding is_each
  each_not i a e colon = rw e (is_mark_not ts m.Colon a colon)

  no_name_declared : (i : ℕ) → after_name text ts i ≡ None → is_declared text ts i ≡ false
  unfolding is_declared
  no_name_declared i e = rw e refl

  no_name_each : (i : ℕ) → after_name text ts i ≡ None → is_each text ts i ≡ false
  unfolding is_each
  no_name_each i e = rw e refl

  -- where no type with a name behind it stands
  no_name : (i : ℕ) → sort_at ts i ≢ s.Keyword kw.Final → ((ty : TypeExpr) (j : ℕ) → SpellsType text ts ty i j → sort_at ts j ≡ s.Word → ⊥) → after_name text ts i ≡ None
  unfolding after_name after_final
  no_name i no_final other = rw (after_keyword_not ts kw.Final i no_final) (by_end (type_end ts i) refl)
    where
      by_word : (a : ℕ) (ty : TypeExpr) → SpellsType text ts ty i a → (o : Option ℕ) → after_word ts a ≡ o → o ≡ None
      by_word a ty p None e = refl
      by_word a ty p (Some b) e = absurd (other ty a p (after_word_says ts a b e).0)

      by_end : (o : Option ℕ) → type_end ts i ≡ o → (o >>= after_word ts) ≡ None
      by_end None e = refl
      by_end (Some a) e = let p = scanned i a e in by_word a p.0 p.1 (after_word ts a) refl

  statement_no_name : (e : Expr) (i a : ℕ) → IsStatement e → Spells text ts 14 e i a → EndsAt text ts (sort_at ts a) → after_name text ts i ≡ None
  statement_no_name e i a stmt p ends =
      no_name i (λ is. no_begin text ts 14 e i a (s.Keyword kw.Final) (omega arith) p is refl) (λ ty j q word. statement_no_type text ts e i a ty j stmt p ends q word)

  mark_no_name : (i : ℕ) (x : Mark) → sort_at ts i ≡ s.Mark x → after_name text ts i ≡ None
  mark_no_name i x is =
      no_name i (λ e. differ i (s.Mark x) (s.Keyword kw.Final) is e (λ e. cc))
      (λ ty j q word. let so : false ≡ true = subst (λ y. type_begin y ≡ true) is (type_begins text ts ty i j q) in cc)

  -- ---- trees have tokens

  vars_on : (xs : List Var) (i j : ℕ) → AreVars text ts xs i j → i < j
  vars_on [] i j p = absurd p
  vars_on (x ∷ []) i j p = var_on x i j p
  vars_on (x ∷ y ∷ ys) i j (a, p, comma, r) = omega (arith, var_on x i a p, vars_on (y ∷ ys) (a + 1) j r)

  final_on : (f : Bool) (i a : ℕ) → IsFinal text ts f i a → i ≤ a
  final_on true i a p = omega (arith, p.1)
  final_on false i a p = omega arith

  local_on : (f : Bool) (ty : TypeExpr) (vs : List Var) (i j : ℕ) → IsLocal text ts f ty vs i j → i < j
  local_on f ty vs i j (a, final, b, p, q) = omega (arith, final_on f i a final, types_on ty a b p, vars_on vs b j q)

  more_values_on : (es : Exprs) (i j : ℕ) → AreMoreValues text ts es i j → i < j
  more_values_on t.End i j p = omega (arith, p.1)
  more_values_on (t.Also e es) i j (comma, a, p, r) = omega (arith, exprs_on 14 e (i + 1) a p, more_values_on es a j r)

  values_on : (es : Exprs) (i j : ℕ) → AreValues text ts es i j → i < j
  values_on t.End i j p = omega (arith, p.1)
  values_on (t.Also e es) i j (a, p, r) = omega (arith, exprs_on 14 e i a p, more_values_on es a j r)

  test_on : (e : Expr) (i j : ℕ) → IsTest text ts e i j → i < j
  test_on e i j (open_is, a, p, close_is, next) = omega (arith, exprs_on 14 e (i + 1) a p)

  maybe_on : (e : Option Expr) (i j : ℕ) → IsMaybe text ts e i j → i ≤ j
  maybe_on None i j p = omega arith
  maybe_on (Some e) i j p = omega (arith, exprs_on 14 e i j p)

  performed_on : (es : Exprs) (i j : ℕ) → ArePerformed text ts es i j → i ≤ j
  performed_on t.End i j p = absurd p
  performed_on (t.Also e t.End) i j (stmt, p) = omega (arith, exprs_on 14 e i j p)
  performed_on (t.Also e (t.Also f es)) i j (stmt, a, p, comma, r) = omega (arith, exprs_on 14 e i a p, performed_on (t.Also f es) (a + 1) j r)

  update_on : (es : Exprs) (i j : ℕ) → IsUpdate text ts es i j → i ≤ j
  update_on t.End i j p = omega arith
  update_on (t.Also e es) i j p = performed_on (t.Also e es) i j p

  firsts_on : (x : Stmt) (xs : Stmts) (i j : ℕ) → ArePerformedFirst text ts (t.Then x xs) i j → i ≤ j
  firsts_on (t.Value n e) t.Last i j (node, stmt, p) = omega (arith, exprs_on 14 e i j p)
  firsts_on (t.Value n e) (t.Then y ys) i j (a, node, stmt, p, comma, r) = omega (arith, exprs_on 14 e i a p, firsts_on y ys (a + 1) j r)
  firsts_on _ xs i j p = absurd p

  start_on : (xs : Stmts) (i j : ℕ) → IsStart text ts xs i j → i ≤ j
  start_on t.Last i j p = omega arith
  start_on (t.Then (t.Local n f ty vs) t.Last) i j p = omega (arith, local_on f ty vs i j p.1)
  start_on (t.Then x xs) i j p = firsts_on x xs i j p

  label_on : (x : Option Expr) (i j : ℕ) → IsLabel text ts x i j → i < j
  label_on None i j p = omega (arith, p.2)
  label_on (Some e) i j (word, value, a, p, colon, next) = omega (arith, exprs_on 2 e (i + 1) a p)

  labels_on : (xs : List (Option Expr)) (i j : ℕ) → AreLabels text ts xs i j → i < j
  labels_on [] i j p = absurd p
  labels_on (x ∷ []) i j p = label_on x i j p
  labels_on (x ∷ y ∷ ys) i j (a, p, r) = omega (arith, label_on x i a p, labels_on (y ∷ ys) a j r)

  param_on : (x : Param) (i j : ℕ) → IsParam text ts x i j → i < j
  param_on x i j p = omega (arith, final_on x.is_final i p.begin p.final, types_on x.ty p.begin p.name_at p.type, brackets_on x.dims (p.name_at + 1) j p.brackets)

  mutual
    stmt_on : (w : Bool) (x : Stmt) (i j : ℕ) → SpellsStmt text ts w x i j → i < j
    stmt_on w (t.Block n xs) i j (node, open_is, a, p, close_is, next) = omega (arith, stmts_on xs (i + 1) a p)
    stmt_on true (t.Local n f ty vs) i j (node, a, p, semi, next) = omega (arith, local_on f ty vs i a p)
    stmt_on false (t.Local n f ty vs) i j p = absurd p
    stmt_on w (t.Empty n) i j p = omega (arith, p.2)
    stmt_on w (t.Value n e) i j (node, stmt, a, p, semi, next) = omega (arith, exprs_on 14 e i a p)
    stmt_on w (t.If n e x t.NoStmt) i j (node, word, a, p, q, other) = omega (arith, test_on e (i + 1) a p, stmt_on false x a j q)
    stmt_on w (t.If n e x (t.AStmt y)) i j (node, word, a, p, b, q, word', r) = omega (arith, test_on e (i + 1) a p, stmt_on false x a b q, stmt_on false y (b + 1) j r)
    stmt_on w (t.While n e x) i j (node, word, a, p, q) = omega (arith, test_on e (i + 1) a p, stmt_on false x a j q)
    stmt_on w (t.Do n x e) i j (node, word, a, p, word', b, q, semi, next) = omega (arith, stmt_on false x (i + 1) a p, test_on e (a + 1) b q)
    stmt_on w (t.For n xs e es x) i j (node, word, open_is, a, p, semi, b, q, semi', c, r, close_is, u) =
        omega (arith, start_on xs (i + 2) a p, maybe_on e (a + 1) b q, update_on es (b + 1) c r, stmt_on false x (c + 1) j u)
    stmt_on w (t.ForEach n f ty v e x) i j (node, word, open_is, a, p, b, q, id, colon, c, r, close_is, u) =
        omega (arith, final_on f (i + 2) a p, types_on ty a b q, exprs_on 14 e (b + 2) c r, stmt_on false x (c + 1) j u)
    stmt_on w (t.Switch n e gs) i j (node, word, a, p, open_is, b, q, close_is, next) = omega (arith, test_on e (i + 1) a p, groups_on gs (a + 1) b q)
    stmt_on w (t.Break n) i j p = omega (arith, p.3)
    stmt_on w (t.Continue n) i j p = omega (arith, p.3)
    stmt_on w (t.Return n e) i j (node, word, a, p, semi, next) = omega (arith, maybe_on e (i + 1) a p)
    stmt_on w (t.Throw n e) i j (node, word, a, p, semi, next) = omega (arith, exprs_on 14 e (i + 1) a p)
    stmt_on w (t.Try n x cs y) i j (node, word, block, a, p, b, q, r, c, d) = omega (arith, stmt_on false x (i + 1) a p, catches_on cs a b q, last_on cs y b j r)
    stmt_on w (t.ThisCall n es) i j (node, word, open_is, a, p, semi, next) = omega (arith, values_on es (i + 2) a p)
    stmt_on w (t.SuperCall n es) i j (node, word, open_is, a, p, semi, next) = omega (arith, values_on es (i + 2) a p)

    stmts_on : (xs : Stmts) (i j : ℕ) → AreStmts text ts xs i j → i ≤ j
    stmts_on t.Last i j p = omega arith
    stmts_on (t.Then x xs) i j (a, p, r) = omega (arith, stmt_on true x i a p, stmts_on xs a j r)

    group_on : (x : Group) (i j : ℕ) → IsGroup text ts x i j → i < j
    group_on (t.Labelled n ls t.Last) i j p = labels_on ls i j p.1
    group_on (t.Labelled n ls (t.Then x xs)) i j (node, a, p, b, q, r) = omega (arith, labels_on ls i a p, stmt_on true x a b q, stmts_on xs b j r)

    groups_on : (xs : Groups) (i j : ℕ) → AreGroups text ts xs i j → i ≤ j
    groups_on t.NoGroup i j p = omega arith
    groups_on (t.AndGroup x xs) i j (a, p, r) = omega (arith, group_on x i a p, groups_on xs a j r)

    catch_on : (x : Catch) (i j : ℕ) → IsCatch text ts x i j → i < j
    catch_on (t.Caught n p x) i j (node, word, open_is, a, q, close_is, block, r) = omega (arith, param_on p (i + 2) a q, stmt_on false x (a + 1) j r)

    catches_on : (xs : Catches) (i j : ℕ) → AreCatches text ts xs i j → i ≤ j
    catches_on t.NoCatch i j p = omega arith
    catches_on (t.AndCatch x xs) i j (a, p, r) = omega (arith, catch_on x i a p, catches_on xs a j r)

    last_on : (cs : Catches) (x : MaybeStmt) (i j : ℕ) → IsLast text ts cs x i j → i ≤ j
    last_on cs (t.AStmt x) i j (word, block, p) = omega (arith, stmt_on false x (i + 1) j p)
    last_on t.NoCatch t.NoStmt i j p = absurd p
    last_on (t.AndCatch c cs) t.NoStmt i j p = omega arith

  -- a block ends within the tokens
  block_end : (x : Stmt) (i j : ℕ) → IsBlock x → SpellsStmt text ts false x i j → j ≤ length ts
  block_end (t.Block n xs) i j block (node, open_is, a, p, close_is, next) = let here = within ts a (s.Mark m.RightBrace) close_is (λ e. cc) in omega (arith, here)
  block_end _ i j block p = absurd block

  -- ---- where lists end

  stop_has : (i : ℕ) → sort_at ts i ≡ s.Mark m.RightBrace → is_stop text ts i ≡ true
  unfolding is_stop
  stop_has i is = rw (is_mark_has ts m.RightBrace i is) refl

  label_no_brace : (x : Option Expr) (i j : ℕ) → IsLabel text ts x i j → sort_at ts i ≢ s.Mark m.RightBrace
  label_no_brace None i j p is = let word = p.0 in cc
  label_no_brace (Some e) i j p is = let word = p.0 in cc

  label_there : (x : Option Expr) (i j : ℕ) → IsLabel text ts x i j → is_label text ts i ≡ true
  unfolding is_label
  label_there None i j p = rw (is_keyword_not ts kw.Case i (λ is. let word = p.0 in cc), is_keyword_has ts kw.Default i p.0) refl
  label_there (Some e) i j p = rw (is_keyword_has ts kw.Case i p.0) refl

  label_stop : (x : Option Expr) (i j : ℕ) → IsLabel text ts x i j → is_stop text ts i ≡ true
  unfolding is_stop
  label_stop x i j p = rw (is_mark_not ts m.RightBrace i (label_no_brace x i j p), label_there x i j p) refl

  label_here : (x : Option Expr) (i j : ℕ) → IsLabel text ts x i j → is_no_label text ts i ≡ false
  unfolding is_no_label
  label_here x i j p = rw (label_there x i j p) refl

  label_not : (i : ℕ) → sort_at ts i ≢ s.Keyword kw.Case → sort_at ts i ≢ s.Keyword kw.Default → is_label text ts i ≡ false
  unfolding is_label
  label_not i a b = rw (is_keyword_not ts kw.Case i a, is_keyword_not ts kw.Default i b) refl

  no_label_has : (i : ℕ) → sort_at ts i ≢ s.Keyword kw.Case → sort_at ts i ≢ s.Keyword kw.Default → is_no_label text ts i ≡ true
  unfolding is_no_label
  no_label_has i a b = rw (label_not i a b) refl

  stmt_no_stop : (w : Bool) (x : Stmt) (i j : ℕ) → SpellsStmt text ts w x i j → is_stop text ts i ≡ false
  unfolding is_stop
  stmt_no_stop w x i j p =
      rw (
        is_mark_not ts m.RightBrace i (no_stmt text ts w x i j (s.Mark m.RightBrace) p refl),
        label_not i (no_stmt text ts w x i j (s.Keyword kw.Case) p refl) (no_stmt text ts w x i j (s.Keyword kw.Default) p refl),
      ) refl

  stmt_within : (w : Bool) (x : Stmt) (i j : ℕ) → SpellsStmt text ts w x i j → i < length ts
  stmt_within w x i j p = within ts i (sort_at ts i) refl (no_stmt text ts w x i j s.End p refl)

  no_catch_has : (i : ℕ) → sort_at ts i ≢ s.Keyword kw.Catch → is_no_catch text ts i ≡ true
  unfolding is_no_catch
  no_catch_has i other = rw (is_keyword_not ts kw.Catch i other) refl

  catch_here : (i : ℕ) → sort_at ts i ≡ s.Keyword kw.Catch → is_no_catch text ts i ≡ false
  unfolding is_no_catch
  catch_here i is = rw (is_keyword_has ts kw.Catch i is) refl

  -- ---- statements

  module _ (h : ℕ) (below : Bool → Bool → ℕ → Option (Part Stmt))
      (again : (inner w : Bool) (x : Stmt) (i j : ℕ) → SpellsStmt text ts w x i j → stmt_depth x < lower inner h → below inner w i ≡ got x j) where
    test_again : (e : Expr) (i j : ℕ) → IsTest text ts e i j → expr_depth e < h → parenthesized text ts h below i ≡ got e j
    unfolding parenthesized
    test_again e i j (open_is, a, p, close_is, next) low =
        rw (after_mark_has ts m.Open i open_is, exprs h 14 (omega arith) (omega arith) e (i + 1) a p low (rw close_is tt), after_mark_has ts m.Close a close_is, next) refl

    perhaps_again : (e : Option Expr) (i j : ℕ) → IsMaybe text ts e i j → below_init e ≤ h → sort_at ts j ≡ s.Mark m.Semicolon → perhaps text ts h below i ≡ got e j
    unfolding perhaps
    perhaps_again None i j next low semi = rw (is_mark_has ts m.Semicolon i (rw (← next) semi), next) refl
    perhaps_again (Some e) i j p low semi =
        rw (is_mark_not ts m.Semicolon i (λ is. no_begin text ts 14 e i j (s.Mark m.Semicolon) (omega arith) p is refl), exprs h 14 (omega arith) (omega arith) e i j p (omega arith) (rw semi tt)) refl

    IsStmtBelow : ℕ → Stmt → ℕ → ℕ → Type 0
    IsStmtBelow d x i j = SpellsStmt text ts true x i j × (stmt_depth x < d)

    stmts_run : (d : ℕ) (xs : Stmts) (i j : ℕ) → AreStmts text ts xs i j → below_stmts xs ≤ d → Run text ts (IsStmtBelow d) (stmt_items xs) i j
    unfolding IsStmtBelow
    stmts_run d t.Last i j p low = p
    stmts_run d (t.Then x xs) i j (a, p, r) low = (a, (p, omega arith), stmts_run d xs a j r (omega arith))

    stmts_again : (inner : Bool) (xs : Stmts) (i j : ℕ) → AreStmts text ts xs i j → below_stmts xs ≤ lower inner h → is_stop text ts j ≡ true → j ≤ length ts → 0 < i
        → stmts text ts h below inner i ≡ got (stmt_items xs) j
    unfolding stmts IsStmtBelow
    stmts_again inner xs i j p low stop end some =
        many_again text ts (IsStmtBelow (lower inner h)) (below inner true) (λ x i j p. again inner true x i j p.0 p.1) (λ x i j p. stmt_on true x i j p.0) (is_stop text ts)
        (λ x i j p. stmt_no_stop true x i j p.0) (stmt_items xs) [] (length ts) i j (stmts_run (lower inner h) xs i j p low) stop end (omega arith)

    block_in_again : (inner : Bool) (x : Stmt) (i j : ℕ) → IsBlock x → SpellsStmt text ts false x i j → stmt_depth x < lower inner h → block_in text ts h below inner i ≡ got x j
    unfolding block_in
    block_in_again inner x i j block p low = rw (is_mark_has ts m.LeftBrace i (block_begins text ts x i j p block)) (again inner false x i j p low)

    -- ---- labels, groups and catches

    IsLabelBelow : Option Expr → ℕ → ℕ → Type 0
    IsLabelBelow x i j = IsLabel text ts x i j × (below_init x ≤ h - 1)

    label_again : (x : Option Expr) (i j : ℕ) → IsLabelBelow x i j → label text ts h below i ≡ got x j
    unfolding label case_label default_label IsLabelBelow
    label_again None i j ((word, colon, next), low) =
        let two : i + 1 + 1 ≡ i + 2 = omega arith in
        rw (
          after_keyword_not ts kw.Case i (λ is. differ i (s.Keyword kw.Default) (s.Keyword kw.Case) word is (λ e. cc)),
          after_keyword_has ts kw.Default i word,
          after_mark_has ts m.Colon (i + 1) colon,
          two,
          next,
        ) refl
    label_again (Some e) i j ((word, value, a, p, colon, next), low) =
        rw (after_keyword_has ts kw.Case i word, exprs (h - 1) 2 (omega arith) (omega arith) e (i + 1) a p (omega arith) (rw colon tt), after_mark_has ts m.Colon a colon, label_value_has e value, next) refl

    record LabelRun (x : Option Expr) (xs : List (Option Expr)) (i j : ℕ) : Type 0 where
      end : ℕ
      one : IsLabel text ts x i end
      low : below_init x ≤ h - 1
      run : Run text ts IsLabelBelow xs end j

    labels_run : (x : Option Expr) (xs : List (Option Expr)) (i j : ℕ) → AreLabels text ts (x ∷ xs) i j → below_labels (x ∷ xs) ≤ h - 1 → LabelRun x xs i j
    unfolding IsLabelBelow
    labels_run x [] i j p low = record { end = j; one = p; low = omega arith; run = refl }
    labels_run x (y ∷ ys) i j (a, p, r) low =
        let v = labels_run y ys a j r (omega arith) in
        record { end = a; one = p; low = omega arith; run = (v.end, (v.one, v.low), v.run) }

    labels_again : (xs : List (Option Expr)) (i j : ℕ) → AreLabels text ts xs i j → below_labels xs ≤ h - 1 → is_no_label text ts j ≡ true → j ≤ length ts
        → labels text ts h below i ≡ got xs j
    unfolding labels more_labels IsLabelBelow
    labels_again [] i j p low stop end = absurd p
    labels_again (x ∷ xs) i j p low stop end =
        let v = labels_run x xs i j p low in
        let on = label_on x i v.end v.one in
        rw (label_again x i v.end (v.one, v.low))
        (many_again text ts IsLabelBelow (label text ts h below) label_again (λ x i j p. label_on x i j p.0) (is_no_label text ts) (λ x i j p. label_here x i j p.0) xs (x ∷ []) (length ts) v.end j
        v.run stop end (omega (arith, on)))

    record IsGroupBelow (x : Group) (i j : ℕ) : Type 0 where
      spells : IsGroup text ts x i j
      low : group_depth x + 1 ≤ h
      stop : is_stop text ts j ≡ true
      end : j ≤ length ts

    group_again : (x : Group) (i j : ℕ) → IsGroupBelow x i j → group text ts h below i ≡ got x j
    unfolding group
    group_again (t.Labelled n ls t.Last) i j q = by_parts q.spells q.low q.end
      where
        by_parts : IsGroup text ts (t.Labelled n ls t.Last) i j → group_depth (t.Labelled n ls t.Last) + 1 ≤ h → j ≤ length ts → group text ts h below i ≡ got (t.Labelled n ls t.Last) j
        by_parts (node, p, brace) low end =
            let no_case : sort_at ts j ≢ s.Keyword kw.Case = λ e. cc in
            let no_default : sort_at ts j ≢ s.Keyword kw.Default = λ e. cc in
            let on = labels_on ls i j p in
            rw (labels_again ls i j p (omega arith) (no_label_has j no_case no_default) end, stmts_again true t.Last j j refl (omega arith) (stop_has j brace) end (omega (arith, on)), node) refl
    group_again (t.Labelled n ls (t.Then x xs)) i j q = by_parts q.spells q.low q.stop q.end
      where
        by_parts : IsGroup text ts (t.Labelled n ls (t.Then x xs)) i j → group_depth (t.Labelled n ls (t.Then x xs)) + 1 ≤ h → is_stop text ts j ≡ true → j ≤ length ts
            → group text ts h below i ≡ got (t.Labelled n ls (t.Then x xs)) j
        by_parts (node, a, p, b, r, u) low stop end =
            let on = labels_on ls i a p in
            let here = stmt_within true x a b r in
            let no_case = no_stmt text ts true x a b (s.Keyword kw.Case) r refl in
            let no_default = no_stmt text ts true x a b (s.Keyword kw.Default) r refl in
            rw (
              labels_again ls i a p (omega arith) (no_label_has a no_case no_default) (omega (arith, here)),
              stmts_again true (t.Then x xs) a j (b, r, u) (omega arith) stop end (omega (arith, on)),
              stmt_row_is xs,
              node,
            ) refl

    group_no_brace : (x : Group) (i j : ℕ) → IsGroup text ts x i j → is_mark ts m.RightBrace i ≡ false
    group_no_brace (t.Labelled n ls t.Last) i j (node, p, brace) = by_labels ls p
      where
        by_labels : (ls : List (Option Expr)) → AreLabels text ts ls i j → is_mark ts m.RightBrace i ≡ false
        by_labels [] p = absurd p
        by_labels (x ∷ []) p = is_mark_not ts m.RightBrace i (label_no_brace x i j p)
        by_labels (x ∷ y ∷ ys) p = is_mark_not ts m.RightBrace i (label_no_brace x i p.0 p.1)
    group_no_brace (t.Labelled n ls (t.Then x xs)) i j (node, a, p, b, r, u) = by_labels ls a p
      where
        by_labels : (ls : List (Option Expr)) (a : ℕ) → AreLabels text ts ls i a → is_mark ts m.RightBrace i ≡ false
        by_labels [] a p = absurd p
        by_labels (x ∷ []) a p = is_mark_not ts m.RightBrace i (label_no_brace x i a p)
        by_labels (x ∷ y ∷ ys) a p = is_mark_not ts m.RightBrace i (label_no_brace x i p.0 p.1)

    labels_stop : (ls : List (Option Expr)) (i a : ℕ) → AreLabels text ts ls i a → (is_stop text ts i ≡ true) × (i < length ts)
    labels_stop [] i a p = absurd p
    labels_stop (x ∷ []) i a p = (label_stop x i a p, label_within x i a p)
      where
        label_within : (x : Option Expr) (i a : ℕ) → IsLabel text ts x i a → i < length ts
        label_within None i a p = within ts i (s.Keyword kw.Default) p.0 (λ e. cc)
        label_within (Some e) i a p = within ts i (s.Keyword kw.Case) p.0 (λ e. cc)
    labels_stop (x ∷ y ∷ ys) i a p = (label_stop x i p.0 p.1, label_within x i p.0 p.1)
      where
        label_within : (x : Option Expr) (i a : ℕ) → IsLabel text ts x i a → i < length ts
        label_within None i a p = within ts i (s.Keyword kw.Default) p.0 (λ e. cc)
        label_within (Some e) i a p = within ts i (s.Keyword kw.Case) p.0 (λ e. cc)

    groups_stop : (xs : Groups) (i j : ℕ) → AreGroups text ts xs i j → sort_at ts j ≡ s.Mark m.RightBrace → (is_stop text ts i ≡ true) × (i < length ts)
    groups_stop t.NoGroup i j p brace =
        let here : sort_at ts i ≡ s.Mark m.RightBrace = rw (← p) brace in
        (stop_has i here, within ts i (s.Mark m.RightBrace) here (λ e. cc))
    groups_stop (t.AndGroup (t.Labelled n ls t.Last) xs) i j (a, (node, p, close_is), r) brace = labels_stop ls i a p
    groups_stop (t.AndGroup (t.Labelled n ls (t.Then x ys)) xs) i j (a, (node, b, p, q, u, v), r) brace = labels_stop ls i b p

    groups_run : (xs : Groups) (i j : ℕ) → AreGroups text ts xs i j → below_groups xs ≤ h → sort_at ts j ≡ s.Mark m.RightBrace → Run text ts IsGroupBelow (group_items xs) i j
    groups_run t.NoGroup i j p low brace = p
    groups_run (t.AndGroup x xs) i j (a, p, r) low brace =
        let stops = groups_stop xs a j r brace in
        (a, record { spells = p; low = omega arith; stop = stops.0; end = omega (arith, stops.1) }, groups_run xs a j r (omega arith) brace)

    groups_again : (xs : Groups) (i j : ℕ) → AreGroups text ts xs i j → below_groups xs ≤ h → sort_at ts j ≡ s.Mark m.RightBrace → 0 < i → groups text ts h below i ≡ got (group_items xs) j
    unfolding groups
    groups_again xs i j p low brace some =
        let here = within ts j (s.Mark m.RightBrace) brace (λ e. cc) in
        many_again text ts IsGroupBelow (group text ts h below) group_again (λ x i j p. group_on x i j p.spells) (is_mark ts m.RightBrace) (λ x i j p. group_no_brace x i j p.spells)
        (group_items xs) [] (length ts) i j (groups_run xs i j p low brace) (is_mark_has ts m.RightBrace j brace) (omega (arith, here)) (omega arith)

    IsCatchBelow : Catch → ℕ → ℕ → Type 0
    IsCatchBelow x i j = IsCatch text ts x i j × (catch_depth x + 1 ≤ h)

    caught_again : (x : Catch) (i j : ℕ) → IsCatchBelow x i j → caught text ts h below i ≡ got x j
    unfolding caught IsCatchBelow
    caught_again (t.Caught n p x) i j ((node, word, open_is, a, q, close_is, block, r), low) =
        let two : i + 1 + 1 ≡ i + 2 = omega arith in
        rw (
          after_keyword_has ts kw.Catch i word,
          after_mark_has ts m.Open (i + 1) open_is,
          two,
          param_again (h - 2) p (i + 2) a q (omega arith) close_is,
          after_mark_has ts m.Close a close_is,
          block_in_again true x (a + 1) j block r (omega arith),
          node,
        ) refl

    catch_word : (x : Catch) (i j : ℕ) → IsCatch text ts x i j → sort_at ts i ≡ s.Keyword kw.Catch
    catch_word (t.Caught n p x) i j q = q.1

    catches_run : (xs : Catches) (i j : ℕ) → AreCatches text ts xs i j → below_catches xs ≤ h → Run text ts IsCatchBelow (catch_items xs) i j
    unfolding IsCatchBelow
    catches_run t.NoCatch i j p low = p
    catches_run (t.AndCatch x xs) i j (a, p, r) low = (a, (p, omega arith), catches_run xs a j r (omega arith))

    catches_again : (xs : Catches) (i j : ℕ) → AreCatches text ts xs i j → below_catches xs ≤ h → sort_at ts j ≢ s.Keyword kw.Catch → j ≤ length ts → 0 < i
        → catches text ts h below i ≡ got (catch_items xs) j
    unfolding catches IsCatchBelow
    catches_again xs i j p low stop end some =
        many_again text ts IsCatchBelow (caught text ts h below) caught_again (λ x i j p. catch_on x i j p.0) (is_no_catch text ts) (λ x i j p. catch_here i (catch_word x i j p.0))
        (catch_items xs) [] (length ts) i j (catches_run xs i j p low) (no_catch_has j stop) end (omega arith)

    -- the last of them ends within the tokens
    catches_end : (xs : Catches) (i j : ℕ) → AreCatches text ts xs i j → i ≤ length ts → j ≤ length ts
    catches_end t.NoCatch i j p end = omega arith
    catches_end (t.AndCatch (t.Caught n p x) xs) i j (a, (node, word, open_is, b, q, close_is, block, r), u) end = catches_end xs a j u (block_end x (b + 1) a block r)

    -- ---- the forms

    choice_again : (n : Node) (e : Expr) (x : Stmt) (y : MaybeStmt) (w : Bool) (i j : ℕ) → SpellsStmt text ts w (t.If n e x y) i j → stmt_depth (t.If n e x y) ≤ h
        → choice text ts h below i ≡ got (t.If n e x y) j
    unfolding choice otherwise
    choice_again n e x t.NoStmt w i j (node, word, a, p, q, other) low =
        rw (after_keyword_has ts kw.If i word, test_again e (i + 1) a p (omega arith), again false false x a j q (omega arith), after_keyword_not ts kw.Else j other, node) refl
    choice_again n e x (t.AStmt y) w i j (node, word, a, p, b, q, word', r) low =
        rw (
          after_keyword_has ts kw.If i word,
          test_again e (i + 1) a p (omega arith),
          again false false x a b q (omega arith),
          after_keyword_has ts kw.Else b word',
          again false false y (b + 1) j r (omega arith),
          node,
        ) refl

    start_again : (xs : Stmts) (i j : ℕ) → IsStart text ts xs i j → below_stmts xs ≤ h → sort_at ts j ≡ s.Mark m.Semicolon → start text ts h below i ≡ got (stmt_items xs) j
    unfolding start
    start_again t.Last i j p low semi = rw (is_mark_has ts m.Semicolon i (rw (← p) semi), p) refl
    start_again (t.Then (t.Local n f ty vs) t.Last) i j (node, (a, final, b, p, q)) low semi =
        let begin = local_begins text ts f ty vs i j (a, final, b, p, q) in
        let none : sort_at ts i ≢ s.Mark m.Semicolon = λ is. (let so : false ≡ true = subst (λ x. local_begin x ≡ true) is begin in cc) in
        rw (
          is_mark_not ts m.Semicolon i none,
          declared_has i (b + 1) (declared_name f ty i a b final p (vars_word vs b j q)),
          local_again (h - 1) f ty vs i j (a, final, b, p, q) (omega arith) (omega arith) semi,
          node,
        ) refl
    start_again (t.Then (t.Local n f ty vs) (t.Then y ys)) i j p low semi = absurd p
    start_again (t.Then (t.Value n e) xs) i j p low semi = by_list xs p low
      where
        first_of : (xs : Stmts) → ArePerformedFirst text ts (t.Then (t.Value n e) xs) i j
            → (sort_at ts i ≢ s.Mark m.Semicolon) × (is_declared text ts i ≡ false)
        first_of t.Last (node, stmt, q) =
            (λ is. no_begin text ts 14 e i j (s.Mark m.Semicolon) (omega arith) q is refl, no_name_declared i (statement_no_name e i j stmt q (rw semi tt)))
        first_of (t.Then y ys) (a, node, stmt, q, comma, r) =
            (λ is. no_begin text ts 14 e i a (s.Mark m.Semicolon) (omega arith) q is refl, no_name_declared i (statement_no_name e i a stmt q (rw comma tt)))

        by_list : (xs : Stmts) → ArePerformedFirst text ts (t.Then (t.Value n e) xs) i j → below_stmts (t.Then (t.Value n e) xs) ≤ h
            → start text ts h below i ≡ got (stmt_items (t.Then (t.Value n e) xs)) j
        by_list xs p low =
            let f = first_of xs p in
            rw (is_mark_not ts m.Semicolon i f.0, f.1) (firsts_list h (t.Value n e) xs i j p low semi)
    start_again (t.Then _ xs) i j p low semi = absurd p

    update_again : (es : Exprs) (i j : ℕ) → IsUpdate text ts es i j → below_exprs es ≤ h → sort_at ts j ≡ s.Mark m.Close → update text ts h below i ≡ got (expr_items es) j
    unfolding update
    update_again t.End i j p low close_is = rw (is_mark_has ts m.Close i (rw (← p) close_is), p) refl
    update_again (t.Also e es) i j p low close_is = rw (is_mark_not ts m.Close i (none es p)) (performed_list h e es i j p low close_is)
      where
        none : (es : Exprs) → ArePerformed text ts (t.Also e es) i j → sort_at ts i ≢ s.Mark m.Close
        none t.End (stmt, q) is = no_begin text ts 14 e i j (s.Mark m.Close) (omega arith) q is refl
        none (t.Also f es) (stmt, a, q, comma, r) is = no_begin text ts 14 e i a (s.Mark m.Close) (omega arith) q is refl

    -- what begins a counted `for` is not the front of one over what an expression gives
    no_colon : (vs : List Var) (b j : ℕ) → AreVars text ts vs b j → sort_at ts j ≡ s.Mark m.Semicolon → sort_at ts (b + 1) ≢ s.Mark m.Colon
    no_colon [] b j p semi is = absurd p
    no_colon (x ∷ []) b j p semi is = by_dims x.dims x.init p.end p.brackets p.init
      where
        by_dims : (d : ℕ) (e : Option Expr) (end : ℕ) → AreBrackets text ts d (b + 1) end → IsInit text ts e end j → ⊥
        by_dims zero None end p q = let here : sort_at ts (b + 1) ≡ s.Mark m.Semicolon = rw (← p, ← q) semi in cc
        by_dims zero (Some e) end p q = let here : sort_at ts (b + 1) ≡ s.Assign None = rw (← p) q.0 in cc
        by_dims (suc d) e end p q = let here = p.0 in cc
    no_colon (x ∷ y ∷ ys) b j (a, p, comma, r) semi is = by_dims x.dims x.init p.end p.brackets p.init
      where
        by_dims : (d : ℕ) (e : Option Expr) (end : ℕ) → AreBrackets text ts d (b + 1) end → IsInit text ts e end a → ⊥
        by_dims zero None end p q = let here : sort_at ts (b + 1) ≡ s.Mark m.Comma = rw (← p, ← q) comma in cc
        by_dims zero (Some e) end p q = let here : sort_at ts (b + 1) ≡ s.Assign None = rw (← p) q.0 in cc
        by_dims (suc d) e end p q = let here = p.0 in cc

    start_no_each : (xs : Stmts) (i j : ℕ) → IsStart text ts xs i j → sort_at ts j ≡ s.Mark m.Semicolon → is_each text ts i ≡ false
    start_no_each t.Last i j p semi = no_name_each i (mark_no_name i m.Semicolon (rw (← p) semi))
    start_no_each (t.Then (t.Local n f ty vs) t.Last) i j (node, (a, final, b, p, q)) semi =
        each_not i (b + 1) (declared_name f ty i a b final p (vars_word vs b j q)) (no_colon vs b j q semi)
    start_no_each (t.Then (t.Local n f ty vs) (t.Then y ys)) i j p semi = absurd p
    start_no_each (t.Then (t.Value n e) t.Last) i j (node, stmt, q) semi = no_name_each i (statement_no_name e i j stmt q (rw semi tt))
    start_no_each (t.Then (t.Value n e) (t.Then y ys)) i j (a, node, stmt, q, comma, r) semi = no_name_each i (statement_no_name e i a stmt q (rw comma tt))
    start_no_each (t.Then _ xs) i j p semi = absurd p

    counted_again : (n : Node) (xs : Stmts) (e : Option Expr) (es : Exprs) (x : Stmt) (w : Bool) (i j : ℕ) → SpellsStmt text ts w (t.For n xs e es x) i j
        → stmt_depth (t.For n xs e es x) ≤ h → counted text ts h below i (i + 2) ≡ got (t.For n xs e es x) j
    unfolding counted counted_end
    counted_again n xs e es x w i j (node, word, open_is, a, p, semi, b, q, semi', c, r, close_is, u) low =
        rw (
          start_again xs (i + 2) a p (omega arith) semi,
          after_mark_has ts m.Semicolon a semi,
          perhaps_again e (a + 1) b q (omega arith) semi',
          after_mark_has ts m.Semicolon b semi',
          update_again es (b + 1) c r (omega arith) close_is,
          after_mark_has ts m.Close c close_is,
          again false false x (c + 1) j u (omega arith),
          stmt_row_is xs,
          expr_row es,
          node,
        ) refl

    each_again : (n : Node) (f : Bool) (ty : TypeExpr) (v : Name) (e : Expr) (x : Stmt) (w : Bool) (i j : ℕ) → SpellsStmt text ts w (t.ForEach n f ty v e x) i j
        → stmt_depth (t.ForEach n f ty v e x) ≤ h → each text ts h below i (i + 2) ≡ got (t.ForEach n f ty v e x) j
    unfolding each each_end
    each_again n f ty v e x w i j (node, word, open_is, a, final, b, p, id, colon, c, q, close_is, u) low =
        let fin = final_again f (i + 2) a final (type_begins text ts ty a b p) in
        let two : b + 1 + 1 ≡ b + 2 = omega arith in
        let name : v ≡ record { 0 = name_at ts b } = name_is v (name_at ts b) id.1 in
        rw (
          fin.1,
          types h ty a b p (omega arith) id.0,
          after_word_has ts b id.0,
          after_mark_has ts m.Colon (b + 1) colon,
          two,
          exprs h 14 (omega arith) (omega arith) e (b + 2) c q (omega arith) (rw close_is tt),
          after_mark_has ts m.Close c close_is,
          again false false x (c + 1) j u (omega arith),
          fin.0,
          ← name,
          node,
        ) refl

    for_counted : (i : ℕ) → sort_at ts i ≡ s.Keyword kw.For → sort_at ts (i + 1) ≡ s.Mark m.Open → is_each text ts (i + 2) ≡ false → for_stmt text ts h below i ≡ counted text ts h below i (i + 2)
    unfolding for_stmt
    for_counted i word open_is none =
        let two : i + 1 + 1 ≡ i + 2 = omega arith in
        rw (after_keyword_has ts kw.For i word, after_mark_has ts m.Open (i + 1) open_is, two, none) refl

    for_each : (i : ℕ) → sort_at ts i ≡ s.Keyword kw.For → sort_at ts (i + 1) ≡ s.Mark m.Open → is_each text ts (i + 2) ≡ true → for_stmt text ts h below i ≡ each text ts h below i (i + 2)
    unfolding for_stmt
    for_each i word open_is there =
        let two : i + 1 + 1 ≡ i + 2 = omega arith in
        rw (after_keyword_has ts kw.For i word, after_mark_has ts m.Open (i + 1) open_is, two, there) refl

    switch_again : (n : Node) (e : Expr) (gs : Groups) (w : Bool) (i j : ℕ) → SpellsStmt text ts w (t.Switch n e gs) i j → stmt_depth (t.Switch n e gs) ≤ h
        → switch_stmt text ts h below i ≡ got (t.Switch n e gs) j
    unfolding switch_stmt
    switch_again n e gs w i j (node, word, a, p, open_is, b, q, close_is, next) low =
        rw (
          after_keyword_has ts kw.Switch i word,
          test_again e (i + 1) a p (omega arith),
          after_mark_has ts m.LeftBrace a open_is,
          groups_again gs (a + 1) b q (omega arith) close_is (omega arith),
          after_mark_has ts m.RightBrace b close_is,
          group_row_is gs,
          node,
          next,
        ) refl

    try_part_not : (i : ℕ) → (sort_at ts i ≡ s.Keyword kw.Catch → ⊥) → (sort_at ts i ≡ s.Keyword kw.Finally → ⊥) → is_try_part text ts i ≡ false
    unfolding is_try_part
    try_part_not i a b = rw (is_keyword_not ts kw.Catch i a, is_keyword_not ts kw.Finally i b) refl

    try_again : (n : Node) (x : Stmt) (cs : Catches) (y : MaybeStmt) (w : Bool) (i j : ℕ) → SpellsStmt text ts w (t.Try n x cs y) i j → stmt_depth (t.Try n x cs y) ≤ h
        → try_stmt text ts h below i ≡ got (t.Try n x cs y) j
    unfolding try_stmt with_last without_last is_empty
    try_again n x cs (t.AStmt y) w i j (node, word, block, a, p, b, q, (word', block', r), c, d) low =
        let on = stmt_on false x (i + 1) a p in
        let end = block_end x (i + 1) a block p in
        rw (
          after_keyword_has ts kw.Try i word,
          block_in_again false x (i + 1) a block p (omega arith),
          catches_again cs a b q (omega arith) (λ is. differ b (s.Keyword kw.Finally) (s.Keyword kw.Catch) word' is (λ e. cc)) (catches_end cs a b q end) (omega (arith, on)),
          after_keyword_has ts kw.Finally b word',
          block_in_again false y (b + 1) j block' r (omega arith),
          try_part_not j c d,
          catch_row_is cs,
          node,
        ) refl
    try_again n x t.NoCatch t.NoStmt w i j (node, word, block, a, p, b, q, r, c, d) low = absurd r
    try_again n x (t.AndCatch k ks) t.NoStmt w i j (node, word, block, a, p, b, q, r, c, d) low =
        let on = stmt_on false x (i + 1) a p in
        let end = block_end x (i + 1) a block p in
        rw (
          after_keyword_has ts kw.Try i word,
          block_in_again false x (i + 1) a block p (omega arith),
          catches_again (t.AndCatch k ks) a b q (omega arith) (λ is. c (rw r is)) (catches_end (t.AndCatch k ks) a b q end) (omega (arith, on)),
          after_keyword_not ts kw.Finally b (λ is. d (rw r is)),
          catch_row_is ks,
          node,
          r,
        ) refl

    value_again : (n : Node) (e : Expr) (w : Bool) (i j : ℕ) → SpellsStmt text ts w (t.Value n e) i j → stmt_depth (t.Value n e) ≤ h → value text ts h below i ≡ got (t.Value n e) j
    unfolding value IsPerformed
    value_again n e w i j (node, stmt, a, p, semi, next) low =
        rw (performed_again h e i a (stmt, p, omega arith, rw semi tt), after_mark_has ts m.Semicolon a semi, node, next) refl

    this_value : (i : ℕ) → sort_at ts (i + 1) ≢ s.Mark m.Open → this_stmt text ts h below i ≡ value text ts h below i
    unfolding this_stmt
    this_value i other = rw (is_mark_not ts m.Open (i + 1) other) refl

    super_value : (i : ℕ) → sort_at ts (i + 1) ≢ s.Mark m.Open → super_stmt text ts h below i ≡ value text ts h below i
    unfolding super_stmt
    super_value i other = rw (is_mark_not ts m.Open (i + 1) other) refl

    other_value : (w : Bool) (i : ℕ) → is_declared text ts i ≡ false → other text ts h below w i ≡ value text ts h below i
    unfolding other
    other_value true i none = rw none refl
    other_value false i none = refl

    level_value : (w : Bool) (i : ℕ) → may_begin (sort_at ts i) ≡ true → (is_self (sort_at ts i) ≡ true → sort_at ts (i + 1) ≢ s.Mark m.Open) → is_declared text ts i ≡ false
        → level text ts h below w i ≡ value text ts h below i
    unfolding level
    level_value w i begin self none = by_case (sort_at ts i) begin self
      where
        by_case : (x : Sort) → may_begin x ≡ true → (is_self x ≡ true → sort_at ts (i + 1) ≢ s.Mark m.Open) → by_sort text ts h below w x i ≡ value text ts h below i
        by_case (s.Mark m.LeftBrace) e self = absurd (cc)
        by_case (s.Mark m.Semicolon) e self = absurd (cc)
        by_case (s.Keyword kw.If) e self = absurd (cc)
        by_case (s.Keyword kw.While) e self = absurd (cc)
        by_case (s.Keyword kw.Do) e self = absurd (cc)
        by_case (s.Keyword kw.For) e self = absurd (cc)
        by_case (s.Keyword kw.Switch) e self = absurd (cc)
        by_case (s.Keyword kw.Break) e self = absurd (cc)
        by_case (s.Keyword kw.Continue) e self = absurd (cc)
        by_case (s.Keyword kw.Return) e self = absurd (cc)
        by_case (s.Keyword kw.Throw) e self = absurd (cc)
        by_case (s.Keyword kw.Try) e self = absurd (cc)
        by_case (s.Keyword kw.This) e self = this_value i (self refl)
        by_case (s.Keyword kw.Super) e self = super_value i (self refl)
        by_case _ e self = other_value w i none

    level_local : (i : ℕ) → local_begin (sort_at ts i) ≡ true → is_declared text ts i ≡ true → level text ts h below true i ≡ local_stmt text ts h below i
    unfolding level other
    level_local i begin there = by_case (sort_at ts i) begin
      where
        by_case : (x : Sort) → local_begin x ≡ true → by_sort text ts h below true x i ≡ local_stmt text ts h below i
        by_case (s.Keyword kw.Final) e = rw there refl
        by_case s.Word e = rw there refl
        by_case (s.Keyword kw.Int) e = rw there refl
        by_case (s.Keyword kw.Long) e = rw there refl
        by_case (s.Keyword kw.Char) e = rw there refl
        by_case (s.Keyword kw.Boolean) e = rw there refl
        by_case _ e = absurd (cc)

    level_by : (w : Bool) (i : ℕ) (x : Sort) → sort_at ts i ≡ x → level text ts h below w i ≡ by_sort text ts h below w x i
    unfolding level
    level_by w i x is = ap (λ x. by_sort text ts h below w x i) is

    block_again : (n : Node) (xs : Stmts) (w : Bool) (i j : ℕ) → SpellsStmt text ts w (t.Block n xs) i j → stmt_depth (t.Block n xs) ≤ h → block text ts h below i ≡ got (t.Block n xs) j
    unfolding block
    block_again n xs w i j (node, open_is, a, p, close_is, next) low =
        let here = within ts a (s.Mark m.RightBrace) close_is (λ e. cc) in
        rw (
          after_mark_has ts m.LeftBrace i open_is,
          stmts_again false xs (i + 1) a p low (stop_has a close_is) (omega (arith, here)) (omega arith),
          after_mark_has ts m.RightBrace a close_is,
          stmt_row_is xs,
          node,
          next,
        ) refl

    local_stmt_again : (n : Node) (f : Bool) (ty : TypeExpr) (vs : List Var) (i j : ℕ) → SpellsStmt text ts true (t.Local n f ty vs) i j → stmt_depth (t.Local n f ty vs) ≤ h
        → local_stmt text ts h below i ≡ got (t.Local n f ty vs) j
    unfolding local_stmt
    local_stmt_again n f ty vs i j (node, a, p, semi, next) low =
        rw (local_again h f ty vs i a p (omega arith) (omega arith) semi, after_mark_has ts m.Semicolon a semi, node, next) refl

    this_call_again : (n : Node) (es : Exprs) (w : Bool) (i j : ℕ) → SpellsStmt text ts w (t.ThisCall n es) i j → stmt_depth (t.ThisCall n es) ≤ h → this_stmt text ts h below i ≡ got (t.ThisCall n es) j
    unfolding this_stmt this_call
    this_call_again n es w i j (node, word, open_is, a, p, semi, next) low =
        let two : i + 1 + 1 ≡ i + 2 = omega arith in
        rw (
          is_mark_has ts m.Open (i + 1) open_is,
          after_keyword_has ts kw.This i word,
          after_mark_has ts m.Open (i + 1) open_is,
          two,
          values_again h es (i + 2) a p low,
          after_mark_has ts m.Semicolon a semi,
          expr_row es,
          node,
          next,
        ) refl

    super_call_again : (n : Node) (es : Exprs) (w : Bool) (i j : ℕ) → SpellsStmt text ts w (t.SuperCall n es) i j → stmt_depth (t.SuperCall n es) ≤ h → super_stmt text ts h below i ≡ got (t.SuperCall n es) j
    unfolding super_stmt super_call
    super_call_again n es w i j (node, word, open_is, a, p, semi, next) low =
        let two : i + 1 + 1 ≡ i + 2 = omega arith in
        rw (
          is_mark_has ts m.Open (i + 1) open_is,
          after_keyword_has ts kw.Super i word,
          after_mark_has ts m.Open (i + 1) open_is,
          two,
          values_again h es (i + 2) a p low,
          after_mark_has ts m.Semicolon a semi,
          expr_row es,
          node,
          next,
        ) refl

    simple_again : (n : Node) (w : Bool) (i j : ℕ)
        → (SpellsStmt text ts w (t.Empty n) i j → empty text ts h below i ≡ got (t.Empty n) j)
        × (SpellsStmt text ts w (t.Break n) i j → break_stmt text ts h below i ≡ got (t.Break n) j)
        × (SpellsStmt text ts w (t.Continue n) i j → continue_stmt text ts h below i ≡ got (t.Continue n) j)
    unfolding empty break_stmt continue_stmt
    simple_again n w i j = (by_empty, by_break, by_continue)
      where
        by_empty : SpellsStmt text ts w (t.Empty n) i j → empty text ts h below i ≡ got (t.Empty n) j
        by_empty (node, semi, next) = rw (after_mark_has ts m.Semicolon i semi, node, next) refl

        by_break : SpellsStmt text ts w (t.Break n) i j → break_stmt text ts h below i ≡ got (t.Break n) j
        by_break (node, word, semi, next) =
            let two : i + 1 + 1 ≡ i + 2 = omega arith in
            rw (after_keyword_has ts kw.Break i word, after_mark_has ts m.Semicolon (i + 1) semi, two, node, next) refl

        by_continue : SpellsStmt text ts w (t.Continue n) i j → continue_stmt text ts h below i ≡ got (t.Continue n) j
        by_continue (node, word, semi, next) =
            let two : i + 1 + 1 ≡ i + 2 = omega arith in
            rw (after_keyword_has ts kw.Continue i word, after_mark_has ts m.Semicolon (i + 1) semi, two, node, next) refl

    while_again : (n : Node) (e : Expr) (x : Stmt) (w : Bool) (i j : ℕ) → SpellsStmt text ts w (t.While n e x) i j → stmt_depth (t.While n e x) ≤ h → while_stmt text ts h below i ≡ got (t.While n e x) j
    unfolding while_stmt
    while_again n e x w i j (node, word, a, p, q) low =
        rw (after_keyword_has ts kw.While i word, test_again e (i + 1) a p (omega arith), again false false x a j q (omega arith), node) refl

    do_again : (n : Node) (x : Stmt) (e : Expr) (w : Bool) (i j : ℕ) → SpellsStmt text ts w (t.Do n x e) i j → stmt_depth (t.Do n x e) ≤ h → do_while text ts h below i ≡ got (t.Do n x e) j
    unfolding do_while
    do_again n x e w i j (node, word, a, p, word', b, q, semi, next) low =
        rw (
          after_keyword_has ts kw.Do i word,
          again false false x (i + 1) a p (omega arith),
          after_keyword_has ts kw.While a word',
          test_again e (a + 1) b q (omega arith),
          after_mark_has ts m.Semicolon b semi,
          node,
          next,
        ) refl

    return_again : (n : Node) (e : Option Expr) (w : Bool) (i j : ℕ) → SpellsStmt text ts w (t.Return n e) i j → stmt_depth (t.Return n e) ≤ h → return_stmt text ts h below i ≡ got (t.Return n e) j
    unfolding return_stmt
    return_again n e w i j (node, word, a, p, semi, next) low =
        rw (after_keyword_has ts kw.Return i word, perhaps_again e (i + 1) a p low semi, after_mark_has ts m.Semicolon a semi, node, next) refl

    throw_again : (n : Node) (e : Expr) (w : Bool) (i j : ℕ) → SpellsStmt text ts w (t.Throw n e) i j → stmt_depth (t.Throw n e) ≤ h → throw_stmt text ts h below i ≡ got (t.Throw n e) j
    unfolding throw_stmt
    throw_again n e w i j (node, word, a, p, semi, next) low =
        rw (after_keyword_has ts kw.Throw i word, exprs h 14 (omega arith) (omega arith) e (i + 1) a p (omega arith) (rw semi tt), after_mark_has ts m.Semicolon a semi, node, next) refl

    pub level_again : (w : Bool) (x : Stmt) (i j : ℕ) → SpellsStmt text ts w x i j → stmt_depth x ≤ h → level text ts h below w i ≡ got x j
    level_again w (t.Block n xs) i j p low = level_by w i (s.Mark m.LeftBrace) p.1 ∙ block_again n xs w i j p low
    level_again true (t.Local n f ty vs) i j p low = level_local i (local_begins text ts f ty vs i p.1 p.2) (by_local p.1 p.2) ∙ local_stmt_again n f ty vs i j p low
      where
        by_local : (a : ℕ) → IsLocal text ts f ty vs i a → is_declared text ts i ≡ true
        by_local j (a, final, b, q, r) = declared_has i (b + 1) (declared_name f ty i a b final q (vars_word vs b j r))
    level_again false (t.Local n f ty vs) i j p low = absurd p
    level_again w (t.Empty n) i j p low = level_by w i (s.Mark m.Semicolon) p.1 ∙ (simple_again n w i j).0 p
    level_again w (t.Value n e) i j (node, stmt, a, p, semi, next) low =
        let ends : EndsAt text ts (sort_at ts a) = rw semi tt in
        level_value w i (begins text ts 14 e i a (omega arith) p) (statement_no_call text ts e i a stmt p ends) (no_name_declared i (statement_no_name e i a stmt p ends))
        ∙ value_again n e w i j (node, stmt, a, p, semi, next) low
    level_again w (t.If n e x t.NoStmt) i j p low = level_by w i (s.Keyword kw.If) p.1 ∙ choice_again n e x t.NoStmt w i j p low
    level_again w (t.If n e x (t.AStmt y)) i j p low = level_by w i (s.Keyword kw.If) p.1 ∙ choice_again n e x (t.AStmt y) w i j p low
    level_again w (t.While n e x) i j p low = level_by w i (s.Keyword kw.While) p.1 ∙ while_again n e x w i j p low
    level_again w (t.Do n x e) i j p low = level_by w i (s.Keyword kw.Do) p.1 ∙ do_again n x e w i j p low
    level_again w (t.For n xs e es x) i j p low =
        level_by w i (s.Keyword kw.For) p.1 ∙ for_counted i p.1 p.2 (start_no_each xs (i + 2) p.3 p.4 p.5) ∙ counted_again n xs e es x w i j p low
    level_again w (t.ForEach n f ty v e x) i j p low = level_by w i (s.Keyword kw.For) p.1 ∙ by_front p ∙ each_again n f ty v e x w i j p low
      where
        by_front : SpellsStmt text ts w (t.ForEach n f ty v e x) i j → for_stmt text ts h below i ≡ each text ts h below i (i + 2)
        by_front (node, word, open_is, a, final, b, q, id, colon, c, r, close_is, u) =
            for_each i word open_is (each_has (i + 2) (b + 1) (declared_name f ty (i + 2) a b final q id.0) colon)
    level_again w (t.Switch n e gs) i j p low = level_by w i (s.Keyword kw.Switch) p.1 ∙ switch_again n e gs w i j p low
    level_again w (t.Break n) i j p low = level_by w i (s.Keyword kw.Break) p.1 ∙ (simple_again n w i j).1 p
    level_again w (t.Continue n) i j p low = level_by w i (s.Keyword kw.Continue) p.1 ∙ (simple_again n w i j).2 p
    level_again w (t.Return n e) i j p low = level_by w i (s.Keyword kw.Return) p.1 ∙ return_again n e w i j p low
    level_again w (t.Throw n e) i j p low = level_by w i (s.Keyword kw.Throw) p.1 ∙ throw_again n e w i j p low
    level_again w (t.Try n x cs y) i j p low = level_by w i (s.Keyword kw.Try) p.1 ∙ try_again n x cs y w i j p low
    level_again w (t.ThisCall n es) i j p low = level_by w i (s.Keyword kw.This) p.1 ∙ this_call_again n es w i j p low
    level_again w (t.SuperCall n es) i j p low = level_by w i (s.Keyword kw.Super) p.1 ∙ super_call_again n es w i j p low

  pub under_again : (h : ℕ) (inner w : Bool) (x : Stmt) (i j : ℕ) → SpellsStmt text ts w x i j → stmt_depth x < lower inner h → under text ts h inner w i ≡ got x j
  unfolding under
  under_again zero true w x i j p low = absurd (omega arith)
  under_again zero false w x i j p low = absurd (omega arith)
  under_again (suc h) true w x i j p low = under_again h false w x i j p (omega arith)
  under_again (suc h) false w x i j p low = level_again h (under text ts h) (λ inner w x i j p low. under_again h inner w x i j p low) w x i j p (omega arith)
