-- What is an expression is read.
use Rattle.std.proofs.Common.{◌≡◌, ◌≢◌, ℕ, zero, suc, ◌+◌, ◌-◌, ◌<◌, ◌≤◌, max, min, Bool, true, false, ◌||◌, cond, List, [], ◌∷◌, ◌++◌, length, Option, Some, None, refl, sym, ap, ◌∙◌, arith, nat_lt, append_assoc, append-nil, ◌⊎◌, inl, inr}
use Rattle.std.proofs.lemmas.Bool.Decides.{nat_tests}
use Rattle.java_tree.specs.declared.tree.Name.{Name}
use Rattle.java_tree.specs.declared.tree.Node.{Node}
use Rattle.java_tree.specs.declared.tree.UnOp.{UnOp}
use Rattle.java_tree.specs.declared.tree.UnOp.TheVariants as un
use Rattle.java_tree.specs.declared.tree.BinOp.{BinOp}
use Rattle.java_tree.specs.Plain as t
use Rattle.java_tree.specs.Plain.{TypeExpr, Expr, Exprs}
use Rattle.java_tree.specs.View.{row}
use Rattle.java_grammar.specs.declared.token.Tok.{Tok}
use Rattle.java_grammar.specs.declared.token.Sort.{Sort}
use Rattle.java_grammar.specs.declared.token.Sort.TheVariants as s
use Rattle.java_grammar.specs.declared.token.Keyword.TheVariants as word
use Rattle.java_grammar.specs.declared.token.Mark.TheVariants as m
use Rattle.java_grammar.specs.Reads.{sort_at, name_at, from_at}
use Rattle.java_grammar.specs.Heights.{type_depth, expr_depth, below_exprs}
use Rattle.java_grammar.specs.Expressions.{level_of, prefix_sort, IsVariable, IsArrayCreation, IsItems, HasNoArguments, MayBeCast, EndsAt, Stands, IsId, node_of, AreBrackets, SpellsType, Spells, AreValues, AreSizes, AreItems}
use Rattle.java_parse_term.specs.declared.signs.Standing.{Standing}
use Rattle.java_parse_term.specs.declared.terms.Row.{Row}
use Rattle.java_parse_term.specs.declared.terms.Row.TheVariants as r
use Rattle.java_parse_term.specs.Marks.{◌>>=◌, is_mark, after_mark}
use Rattle.java_parse_term.specs.Signs.{standing, prefix_of, step_of, is_begin, infix_at, assign_at, level_at}
use Rattle.java_parse_term.specs.Types.{Read, is_primitive, pair_end}
use Rattle.java_parse_term.specs.Parse.{is_variable, is_creation, is_items, level_in_row, is_cast, may_be_cast, row_end, asks, assigns, opens, opens_size, is_link, member, more, all_in, number, call, named, super_call, super_member, paren, new_object, new_filled, size, more_sizes, sizes, new_array, creation, operand, call_on, field_of, selected, index, link, chain, primary, stepped, postfix, signed, stepping, cast_to, cast, unary, joined, asked, tied, climb, chosen_else, chosen, conditional, assigned, expression, items, level, parse, expr_read}
use Rattle.java_parse_term.proofs.Steps.{is_mark_has, is_mark_not, after_mark_has, after_mark_not, after_keyword_has, after_word_has, rise_has}
use Rattle.java_parse_term.proofs.TypesSound.{is_primitive_has, names_class_has, has_brackets_has, no_brackets_has}
use Rattle.java_parse_term.proofs.TypesComplete.{within, name_is, Closed, closed_at, no_second, brackets_from, bare_again, type_again}
use Rattle.java_parse_term.proofs.Operators.{tightest, no_sign_has, level_infix, level_asked}
use Rattle.java_parse_term.proofs.Sound.{AreIn, AreMoreIn}
use Rattle.java_parse_term.proofs.Follows.{loose_at, loose_is, starts, ends_loose, not_begin, not_dot, not_bracket, not_question, not_step, not_assign, loose_infix, loose_assign, loose_level, infix_has, infix_no_assign, assign_has, Spells-starts, Spells-on}
use Rattle.java_parse_term.proofs.Casts.{cast_has, cast_not}

-- ---- tests of trees

is_variable_has : (e : Expr) → IsVariable e → is_variable e ≡ true
is_variable_has (t.Name n x) h = refl
is_variable_has (t.Field n a x) h = refl
is_variable_has (t.SuperField n x) h = refl
is_variable_has (t.Index n a b) h = refl
is_variable_has (t.Paren n a) h = is_variable_has a h
is_variable_has _ h = absurd h

no_creation_has : (e : Expr) → (IsArrayCreation e → ⊥) → is_creation e ≡ false
no_creation_has (t.NewArray n ty es d) h = absurd (h tt)
no_creation_has (t.NewFilled n ty a) h = absurd (h tt)
no_creation_has _ h = refl

is_items_has : (e : Expr) → IsItems e → is_items e ≡ true
is_items_has (t.Items n es) h = refl
is_items_has _ h = absurd h

begin_open : (x : Sort) → is_begin x ≡ false → x ≢ s.Mark m.Open
begin_open x off e = let both = sym off ∙ ap is_begin e in cc

prefix_has : (x : UnOp) → prefix_of (prefix_sort x) ≡ Some x
prefix_has un.Plus = refl
prefix_has un.Minus = refl
prefix_has un.Invert = refl
prefix_has un.Not = refl

abbrev pub listed : Exprs → List Expr
listed t.End = []
listed (t.Also e es) = e ∷ listed es

row-listed : (es : Exprs) → row (listed es) ≡ es
row-listed t.End = refl
row-listed (t.Also e es) = ap (t.Also e) (row-listed es)

abbrev pub got : Expr → ℕ → Option (Read Expr)
got e j = Some (record { tree = e; depth = expr_depth e; next = j })

abbrev got_all : List Expr → ℕ → ℕ → Option (Read (List Expr))
got_all es d j = Some (record { tree = es; depth = d; next = j })

or_right : (b : Bool) → (b || true) ≡ true
or_right true = refl
or_right false = refl

max_up : (a b : ℕ) → max a b + 1 ≡ max (a + 1) (b + 1)
max_up a b = omega arith

no_pair_at : (ts : List Tok) (j : ℕ) → sort_at ts j ≢ s.Mark m.LeftBracket → pair_end ts j ≡ None
unfolding pair_end
no_pair_at ts j other = rw (after_mark_not ts m.LeftBracket j other) refl

module _ (text : List ℕ) (ts : List Tok) where
  items_begin : (e : Expr) (i j : ℕ) → IsItems e → Spells text ts 15 e i j → sort_at ts i ≡ s.Mark m.LeftBrace
  items_begin (t.Items n es) i j h (node, low, is, p) = is
  items_begin _ i j h p = absurd h

  -- ---- how expressions begin

  Spells-cap : (k : ℕ) (e : Expr) (i j : ℕ) → (IsItems e → ⊥) → Spells text ts k e i j → Spells text ts 14 e i j
  Spells-cap k (t.Number n v d b) i j apart h = h
  Spells-cap k (t.Char n c) i j apart h = h
  Spells-cap k (t.Text n us) i j apart h = h
  Spells-cap k (t.Truth n b) i j apart h = h
  Spells-cap k (t.Null n) i j apart h = h
  Spells-cap k (t.This n) i j apart h = h
  Spells-cap k (t.Name n x) i j apart h = h
  Spells-cap k (t.Field n e x) i j apart h = h
  Spells-cap k (t.SuperField n x) i j apart h = h
  Spells-cap k (t.Index n a b) i j apart h = h
  Spells-cap k (t.Call n t.NoExpr x es) i j apart h = h
  Spells-cap k (t.Call n (t.AnExpr e) x es) i j apart h = h
  Spells-cap k (t.SuperMethod n x es) i j apart h = h
  Spells-cap k (t.New n ty es) i j apart h = h
  Spells-cap k (t.NewArray n ty es d) i j apart h = h
  Spells-cap k (t.NewFilled n ty e) i j apart h = h
  Spells-cap k (t.Items n es) i j apart h = absurd (apart tt)
  Spells-cap k (t.Paren n e) i j apart h = h
  Spells-cap k (t.Unary n x e) i j apart (v, low, o, p) = (v, omega arith, o, p)
  Spells-cap k (t.Step n up true e) i j apart (v, low, o, q, p) = (v, omega arith, o, q, p)
  Spells-cap k (t.Step n up false e) i j apart (v, low, q, a, p, o, next) = (v, omega arith, q, a, p, o, next)
  Spells-cap k (t.Cast n ty c e) i j apart (v, low, o, a, p, close, from, may, q) = (v, omega arith, o, a, p, close, from, may, q)
  Spells-cap k (t.Binary n x a b) i j apart (v, low, c, p, d, o, q) = (v, omega (arith, (tightest x).1), c, p, d, o, q)
  Spells-cap k (t.InstanceOf n e ty) i j apart (v, low, a, p, o, none, q) = (v, omega arith, a, p, o, none, q)
  Spells-cap k (t.Cond n a b c) i j apart (v, low, d, p, o, f, q, o', q') = (v, omega arith, d, p, o, f, q, o', q')
  Spells-cap k (t.Assign n x a b) i j apart (v, low, q, c, p, d, o, w) = (v, omega arith, q, c, p, d, o, w)

  start_apart : (i : ℕ) (x : Sort) → starts (sort_at ts i) ≡ true → starts x ≡ false → sort_at ts i ≢ x
  start_apart i x on off e = let both = sym on ∙ ap starts e ∙ off in cc

  begins_apart : (x : Sort) → starts x ≡ false → x ≢ s.Mark m.LeftBrace → (k : ℕ) (e : Expr) (i j : ℕ) → Spells text ts k e i j → sort_at ts i ≢ x
  begins_apart x off other k (t.Items n es) i j (node, low, is, p) e = other (sym e ∙ is)
  begins_apart x off other k e i j p same = start_apart i x (Spells-starts text ts 14 e i j (omega arith) (Spells-cap k e i j (λ h. h) p)) off same

  -- ---- rows

  uncons : (x : Row) (e : Expr) (es : Exprs) (i j : ℕ) → AreMoreIn text ts x (t.Also e es) i j
      → Stands text ts (s.Mark m.Comma) i × (a : ℕ) × Spells text ts (level_in_row x) e (i + 1) a × AreMoreIn text ts x es a j
  uncons r.Values e es i j (is, a, p, h) = (is, a, p, h)
  uncons r.Items e es i j (is, a, p, h) = (is, a, p, h)

  first_in : (x : Row) (e : Expr) (es : Exprs) (i j : ℕ) → AreIn text ts x (t.Also e es) i j → (a : ℕ) × Spells text ts (level_in_row x) e i a × AreMoreIn text ts x es a j
  first_in r.Values e es i j (a, p, h) = (a, p, h)
  first_in r.Items e es i j (a, p, h) = (a, p, h)

  none_more : (x : Row) (i j : ℕ) → AreIn text ts x t.End i j → AreMoreIn text ts x t.End i j
  none_more r.Values i j h = h
  none_more r.Items i j h = h

  more_ends : (x : Row) (es : Exprs) (i j : ℕ) → AreMoreIn text ts x es i j → 15 < loose_at ts i
  more_ends r.Values t.End i j (is, next) = let same = loose_is ts i (s.Mark m.Close) is in omega (arith, same)
  more_ends r.Items t.End i j (inl (is, next)) = let same = loose_is ts i (s.Mark m.RightBrace) is in omega (arith, same)
  more_ends r.Items t.End i j (inr (is, second, next)) = let same = loose_is ts i (s.Mark m.Comma) is in omega (arith, same)
  more_ends x (t.Also e es) i j h = let p = uncons x e es i j h in let same = loose_is ts i (s.Mark m.Comma) p.0 in omega (arith, same)

  more_there : (x : Row) (es : Exprs) (i j : ℕ) → AreMoreIn text ts x es i j → i < length ts
  more_there r.Values t.End i j (is, next) = within ts i _ is (λ e. cc)
  more_there r.Items t.End i j (inl (is, next)) = within ts i _ is (λ e. cc)
  more_there r.Items t.End i j (inr (is, second, next)) = within ts i _ is (λ e. cc)
  more_there x (t.Also e es) i j h = within ts i _ (uncons x e es i j h).0 (λ e. cc)

  row_end_has : (x : Row) (i j : ℕ) → AreMoreIn text ts x t.End i j → row_end text ts x i ≡ Some j
  unfolding row_end
  row_end_has r.Values i j (is, next) = rw (after_mark_has ts m.Close i is, next) refl
  row_end_has r.Items i j (inl (is, next)) = rw (after_mark_has ts m.RightBrace i is, next) refl
  row_end_has r.Items i j (inr (is, second, next)) =
      let two : i + 1 + 1 ≡ j = omega arith in
      rw (after_mark_not ts m.RightBrace i (λ e. let both = sym is ∙ e in cc), after_mark_has ts m.Comma i is, after_mark_has ts m.RightBrace (i + 1) second, two) refl

  row_begin_not : (x : Row) (e : Expr) (i a : ℕ) → Spells text ts (level_in_row x) e i a → row_end text ts x i ≡ None
  unfolding row_end
  row_begin_not r.Values e i a p = rw (after_mark_not ts m.Close i (begins_apart (s.Mark m.Close) refl (λ e. cc) 14 e i a p)) refl
  row_begin_not r.Items e i a p =
      rw (after_mark_not ts m.RightBrace i (begins_apart (s.Mark m.RightBrace) refl (λ e. cc) 15 e i a p), after_mark_not ts m.Comma i (begins_apart (s.Mark m.Comma) refl (λ e. cc) 15 e i a p)) refl

  row_more_not : (x : Row) (e : Expr) (i a : ℕ) → Stands text ts (s.Mark m.Comma) i → Spells text ts (level_in_row x) e (i + 1) a → row_end text ts x i ≡ None
  unfolding row_end
  row_more_not r.Values e i a is p = rw (after_mark_not ts m.Close i (λ e. let both = sym is ∙ e in cc)) refl
  row_more_not r.Items e i a is p =
      rw (after_mark_not ts m.RightBrace i (λ e. let both = sym is ∙ e in cc), after_mark_has ts m.Comma i is, after_mark_not ts m.RightBrace (i + 1) (begins_apart (s.Mark m.RightBrace) refl (λ e. cc) 15 e (i + 1) a p)) refl

  level_in_most : (x : Row) → (2 ≤ level_in_row x) × (level_in_row x ≤ 15)
  level_in_most r.Values = (omega arith, omega arith)
  level_in_most r.Items = (omega arith, omega arith)

  no_cast : (i : ℕ) → sort_at ts i ≢ s.Mark m.Open → is_cast text ts i ≡ false
  unfolding is_cast
  no_cast i other = rw (is_mark_not ts m.Open i other) refl

  module _ (limit : ℕ) (below : ℕ → ℕ → Option (Read Expr))
      (again : (k : ℕ) (e : Expr) (i j : ℕ) → 2 ≤ k → k ≤ 15 → expr_depth e < limit → Spells text ts k e i j → ((IsItems e → ⊥) → k < loose_at ts j) → below k i ≡ got e j) where
    member_again : (x : Row) (e : Expr) (i j : ℕ) → expr_depth e < limit → Spells text ts (level_in_row x) e i j → 15 < loose_at ts j
        → member text ts limit below x i ≡ Some (record { tree = e; depth = expr_depth e + 1; next = j })
    unfolding member
    member_again x e i j low p ends =
        let most = level_in_most x in
        rw (again (level_in_row x) e i j most.0 most.1 low p (λ h. omega (arith, most.1)), rise_has limit (expr_depth e) low) refl

    more_again : (x : Row) (es : Exprs) (before : List Expr) (n top i j : ℕ) → below_exprs es ≤ limit → AreMoreIn text ts x es i j → length ts ≤ n + i
        → more text ts limit below x n before top i ≡ got_all (before ++ listed es) (max top (below_exprs es)) j
    unfolding more
    more_again x es before zero top i j low h turns = absurd (omega (arith, more_there x es i j h))
    more_again x t.End before (suc n) top i j low h turns =
        let high : max top 0 ≡ top = omega arith in
        rw (row_end_has x i j h, append-nil before, high) refl
    more_again x (t.Also e es) before (suc n) top i j low h turns =
        let (is, a, p, rest) = uncons x e es i j h in
        let on = Spells-on text ts (level_in_row x) e (i + 1) a p in
        let read = member_again x e (i + 1) a (omega arith) p (more_ends x es a j rest) in
        let all = more_again x es (before ++ e ∷ []) n (max top (expr_depth e + 1)) a j (omega arith) rest (omega (arith, on)) in
        let high : max (max top (expr_depth e + 1)) (below_exprs es) ≡ max top (max (expr_depth e + 1) (below_exprs es)) = omega arith in
        rw (row_more_not x e i a is p, after_mark_has ts m.Comma i is, read)
        (all ∙ ap (λ xs. got_all xs (max (max top (expr_depth e + 1)) (below_exprs es)) j) (append_assoc before (e ∷ []) (listed es)) ∙ ap (λ d. got_all (before ++ e ∷ listed es) d j) high)

    all_again : (x : Row) (es : Exprs) (i j : ℕ) → below_exprs es ≤ limit → AreIn text ts x es i j → all_in text ts limit below x i ≡ got_all (listed es) (below_exprs es) j
    unfolding all_in
    all_again x t.End i j low h = rw (row_end_has x i j (none_more x i j h)) refl
    all_again x (t.Also e es) i j low h =
        let (a, p, rest) = first_in x e es i j h in
        let on = Spells-on text ts (level_in_row x) e i a p in
        let read = member_again x e i a (omega arith) p (more_ends x es a j rest) in
        rw (row_begin_not x e i a p, read) (more_again x es (e ∷ []) (length ts) (expr_depth e + 1) a j (omega arith) rest (omega arith))

    -- ---- operands

    number_again : (n : Node) (v : ℕ) (d long : Bool) (i j : ℕ) → Spells text ts 0 (t.Number n v d long) i j → operand text ts limit below i ≡ got (t.Number n v d long) j
    unfolding operand number
    number_again n v d long i j (node, is, p, q, next) = rw (is, p, node, q, next) refl

    char_again : (n : Node) (c i j : ℕ) → Spells text ts 0 (t.Char n c) i j → operand text ts limit below i ≡ got (t.Char n c) j
    unfolding operand
    char_again n c i j (node, is, p, next) = rw (is, node, p, next) refl

    text_again : (n : Node) (us : List ℕ) (i j : ℕ) → Spells text ts 0 (t.Text n us) i j → operand text ts limit below i ≡ got (t.Text n us) j
    unfolding operand
    text_again n us i j (node, is, p, next) = rw (is, node, p, next) refl

    truth_again : (n : Node) (b : Bool) (i j : ℕ) → Spells text ts 0 (t.Truth n b) i j → operand text ts limit below i ≡ got (t.Truth n b) j
    unfolding operand
    truth_again n true i j (node, is, next) = rw (is, node, next) refl
    truth_again n false i j (node, is, next) = rw (is, node, next) refl

    null_again : (n : Node) (i j : ℕ) → Spells text ts 0 (t.Null n) i j → operand text ts limit below i ≡ got (t.Null n) j
    unfolding operand
    null_again n i j (node, is, next) = rw (is, node, next) refl

    this_again : (n : Node) (i j : ℕ) → Spells text ts 0 (t.This n) i j → operand text ts limit below i ≡ got (t.This n) j
    unfolding operand
    this_again n i j (node, is, next) = rw (is, node, next) refl

    name_again : (n : Node) (x : Name) (i j : ℕ) → Spells text ts 0 (t.Name n x) i j → is_begin (sort_at ts j) ≡ false → operand text ts limit below i ≡ got (t.Name n x) j
    unfolding operand named
    name_again n x i j (node, (is, name), next) off =
        let none : after_mark ts m.Open (i + 1) ≡ None = after_mark_not ts m.Open (i + 1) (begin_open _ (rw next at off)) in
        rw (is, none, node, name_is x (name_at ts i) name, next) refl

    call_again : (n : Node) (x : Name) (es : Exprs) (i j : ℕ) → below_exprs es ≤ limit → Spells text ts 0 (t.Call n t.NoExpr x es) i j → operand text ts limit below i ≡ got (t.Call n t.NoExpr x es) j
    unfolding operand named call
    call_again n x es i j low (node, (is, name), o, vs) =
        let two : i + 1 + 1 ≡ i + 2 = omega arith in
        rw (is, after_mark_has ts m.Open (i + 1) o, two, all_again r.Values es (i + 2) j low vs, row-listed es, node, name_is x (name_at ts i) name) refl

    super_field_again : (n : Node) (x : Name) (i j : ℕ) → Spells text ts 0 (t.SuperField n x) i j → is_begin (sort_at ts j) ≡ false → operand text ts limit below i ≡ got (t.SuperField n x) j
    unfolding operand super_member
    super_field_again n x i j (node, is, dot, (id, name), next) off =
        let two : i + 1 + 1 ≡ i + 2 = omega arith in
        let three : i + 2 + 1 ≡ j = omega arith in
        let none : after_mark ts m.Open j ≡ None = after_mark_not ts m.Open j (begin_open _ off) in
        rw (is, after_mark_has ts m.Dot (i + 1) dot, two, after_word_has ts (i + 2) id, three, none, node, name_is x (name_at ts (i + 2)) name) refl

    super_method_again : (n : Node) (x : Name) (es : Exprs) (i j : ℕ) → below_exprs es ≤ limit → Spells text ts 0 (t.SuperMethod n x es) i j
        → operand text ts limit below i ≡ got (t.SuperMethod n x es) j
    unfolding operand super_member super_call
    super_method_again n x es i j low (node, is, dot, (id, name), o, vs) =
        let two : i + 1 + 1 ≡ i + 2 = omega arith in
        let three : i + 2 + 1 ≡ i + 3 = omega arith in
        let four : i + 3 + 1 ≡ i + 4 = omega arith in
        rw (
          is,
          after_mark_has ts m.Dot (i + 1) dot,
          two,
          after_word_has ts (i + 2) id,
          three,
          after_mark_has ts m.Open (i + 3) o,
          four,
          all_again r.Values es (i + 4) j low vs,
          row-listed es,
          node,
          name_is x (name_at ts (i + 2)) name,
        ) refl

    paren_again : (n : Node) (e : Expr) (i j : ℕ) → expr_depth e < limit → Spells text ts 0 (t.Paren n e) i j → operand text ts limit below i ≡ got (t.Paren n e) j
    unfolding operand paren
    paren_again n e i j low (node, is, a, p, o, next) =
        let same = loose_is ts a (s.Mark m.Close) o in
        rw (is, again 14 e (i + 1) a (omega arith) (omega arith) low p (λ h. omega (arith, same)), after_mark_has ts m.Close a o, rise_has limit (expr_depth e) low, node, next) refl

    new_again : (n : Node) (ty : TypeExpr) (es : Exprs) (i j : ℕ) → type_depth ty < limit → below_exprs es ≤ limit → Spells text ts 0 (t.New n ty es) i j
        → operand text ts limit below i ≡ got (t.New n ty es) j
    unfolding operand creation new_object
    new_again n ty es i j low low' (node, is, class, a, p, o, vs) =
        let ends = closed_at ts a (s.Mark m.Open) o (λ e. cc) (λ e. cc) (λ e. cc) in
        rw (
          is,
          type_again text ts limit ty (i + 1) a low p ends,
          after_mark_has ts m.Open a o,
          names_class_has ty class,
          all_again r.Values es (a + 1) j low' vs,
          rise_has limit (type_depth ty) low,
          row-listed es,
          node,
        ) refl

    filled_again : (n : Node) (ty : TypeExpr) (e : Expr) (i j : ℕ) → type_depth ty < limit → expr_depth e < limit → Spells text ts 0 (t.NewFilled n ty e) i j
        → operand text ts limit below i ≡ got (t.NewFilled n ty e) j
    unfolding operand creation new_filled
    filled_again n ty e i j low low' (node, is, array, row_is, a, p, q) =
        let brace = items_begin e a j row_is q in
        let ends = closed_at ts a (s.Mark m.LeftBrace) brace (λ e. cc) (λ e. cc) (λ e. cc) in
        let none : after_mark ts m.Open a ≡ None = after_mark_not ts m.Open a (λ e. let both = sym brace ∙ e in cc) in
        rw (
          is,
          type_again text ts limit ty (i + 1) a low p ends,
          none,
          is_mark_has ts m.LeftBrace a brace,
          has_brackets_has ty array,
          again 15 e a j (omega arith) (omega arith) low' q (λ h. absurd (h row_is)),
          is_items_has e row_is,
          rise_has limit (max (type_depth ty) (expr_depth e)) (omega arith),
          node,
        )
        (ap (λ d. Some (record { tree = t.NewFilled (node_of text ts i j) ty e; depth = d; next = j })) (max_up (type_depth ty) (expr_depth e)))

    size_again : (e : Expr) (i a : ℕ) → expr_depth e < limit → Stands text ts (s.Mark m.LeftBracket) i → Spells text ts 14 e (i + 1) a → Stands text ts (s.Mark m.RightBracket) a
        → size text ts limit below i ≡ Some (record { tree = e; depth = expr_depth e + 1; next = a + 1 })
    unfolding size
    size_again e i a low is p o =
        let same = loose_is ts a (s.Mark m.RightBracket) o in
        rw (after_mark_has ts m.LeftBracket i is, again 14 e (i + 1) a (omega arith) (omega arith) low p (λ h. omega (arith, same)), after_mark_has ts m.RightBracket a o, rise_has limit (expr_depth e) low) refl

    size_opens : (e : Expr) (i a : ℕ) → Stands text ts (s.Mark m.LeftBracket) i → Spells text ts 14 e (i + 1) a → opens_size text ts i ≡ true
    unfolding opens_size
    size_opens e i a is p = rw (is_mark_has ts m.LeftBracket i is, is_mark_not ts m.RightBracket (i + 1) (begins_apart (s.Mark m.RightBracket) refl (λ e. cc) 14 e (i + 1) a p)) refl

    more_sizes_again : (es : Exprs) (before : List Expr) (n top i j : ℕ) → below_exprs es ≤ limit → AreSizes text ts es i j → opens_size text ts j ≡ false → i ≤ length ts → length ts < n + i
        → more_sizes text ts limit below n before top i ≡ got_all (before ++ listed es) (max top (below_exprs es)) j
    unfolding more_sizes
    more_sizes_again t.End before zero top i j low e none there turns = absurd (omega arith)
    more_sizes_again (t.Also e es) before zero top i j low (is, a, p, o, rest) none there turns = absurd (omega (arith, within ts i _ is (λ e. cc)))
    more_sizes_again t.End before (suc n) top i j low next none there turns =
        let high : max top 0 ≡ top = omega arith in
        let none_here : opens_size text ts i ≡ false = rw (← next) none in
        rw (none_here, append-nil before, high, next) refl
    more_sizes_again (t.Also e es) before (suc n) top i j low (is, a, p, o, rest) none there turns =
        let on = Spells-on text ts 14 e (i + 1) a p in
        let all = more_sizes_again es (before ++ e ∷ []) n (max top (expr_depth e + 1)) (a + 1) j (omega arith) rest none (omega (arith, within ts a _ o (λ e. cc))) (omega (arith, on)) in
        let high : max (max top (expr_depth e + 1)) (below_exprs es) ≡ max top (max (expr_depth e + 1) (below_exprs es)) = omega arith in
        rw (size_opens e i a is p, size_again e i a (omega arith) is p o)
        (all ∙ ap (λ xs. got_all xs (max (max top (expr_depth e + 1)) (below_exprs es)) j) (append_assoc before (e ∷ []) (listed es)) ∙ ap (λ d. got_all (before ++ e ∷ listed es) d j) high)

    sizes_again : (e : Expr) (es : Exprs) (i j : ℕ) → below_exprs (t.Also e es) ≤ limit → AreSizes text ts (t.Also e es) i j → opens_size text ts j ≡ false
        → sizes text ts limit below i ≡ got_all (e ∷ listed es) (below_exprs (t.Also e es)) j
    unfolding sizes
    sizes_again e es i j low (is, a, p, o, rest) none =
        let on = Spells-on text ts 14 e (i + 1) a p in
        rw (size_again e i a (omega arith) is p o) (more_sizes_again es (e ∷ []) (length ts) (expr_depth e + 1) (a + 1) j (omega arith) rest none (omega (arith, within ts a _ o (λ e. cc))) (omega arith))

    brackets_close : (d b j : ℕ) → AreBrackets text ts d b j → sort_at ts j ≢ s.Mark m.LeftBracket → opens_size text ts b ≡ false
    unfolding opens_size
    brackets_close zero b j e apart = rw (is_mark_not ts m.LeftBracket b (rw e at apart)) refl
    brackets_close (suc d) b j (o, c, h) apart = rw (is_mark_has ts m.LeftBracket b o, is_mark_has ts m.RightBracket (b + 1) c) refl

    array_again : (n : Node) (ty : TypeExpr) (es : Exprs) (d i j : ℕ) → type_depth ty < limit → below_exprs es ≤ limit → Spells text ts 0 (t.NewArray n ty es d) i j
        → sort_at ts j ≢ s.Mark m.LeftBracket → operand text ts limit below i ≡ got (t.NewArray n ty es d) j
    unfolding operand creation new_array
    array_again n ty t.End d i j low low' (node, is, flat, a, p, some, b, q, w) apart = absurd (some refl)
    array_again n ty (t.Also e es) d i j low low' (node, is, flat, a, p, some, b, (o, c, first, o', rest), w) apart =
        let ends : Closed ts a = record {
          no_dot = λ e. let both = sym o ∙ e in cc;
          no_less = λ e. let both = sym o ∙ e in cc;
          no_pair = no_second ts a (begins_apart (s.Mark m.RightBracket) refl (λ e. cc) 14 e (a + 1) c first);
        } in
        let none : after_mark ts m.Open a ≡ None = after_mark_not ts m.Open a (λ e. let both = sym o ∙ e in cc) in
        let none' : is_mark ts m.LeftBrace a ≡ false = is_mark_not ts m.LeftBrace a (λ e. let both = sym o ∙ e in cc) in
        rw (
          is,
          type_again text ts limit ty (i + 1) a low p ends,
          none,
          none',
          no_brackets_has ty flat,
          sizes_again e es a b low' (o, c, first, o', rest) (brackets_close d b j w apart),
          rise_has limit (type_depth ty) low,
          brackets_from text ts d b j w (no_pair_at ts j apart),
          row-listed es,
          node,
        ) refl

    -- ---- what goes on with a primary

    -- reading a primary comes to the point where `chain` goes on behind e, and nothing stands before the operand
    record Chained (i : ℕ) (e : Expr) (j : ℕ) : Type 0 where
      turns : ℕ
      is : primary text ts limit below i ≡ chain text ts limit below turns i (record { tree = e; depth = expr_depth e; next = j })
      enough : limit + 1 ≤ turns + expr_depth e
      front : unary text ts limit below i ≡ postfix text ts limit below i

    front_of : (i : ℕ) (x : Sort) → sort_at ts i ≡ x → prefix_of x ≡ None → step_of x ≡ None → is_cast text ts i ≡ false → unary text ts limit below i ≡ postfix text ts limit below i
    unfolding unary
    front_of i x is a b c = rw (is, a, b, c) refl

    from_operand : (i : ℕ) (e : Expr) (j : ℕ) (x : Sort) → operand text ts limit below i ≡ got e j → sort_at ts i ≡ x → prefix_of x ≡ None → step_of x ≡ None → x ≢ s.Mark m.Open → Chained i e j
    unfolding primary
    from_operand i e j x read is a b other =
        record { turns = limit + 1; is = rw read refl; enough = omega arith; front = front_of i x is a b (no_cast i (λ e. other (sym is ∙ e))) }

    paren_front : (n : Node) (e : Expr) (i j a : ℕ) → expr_depth e < limit → Stands text ts (s.Mark m.Open) i → Spells text ts 14 e (i + 1) a → Stands text ts (s.Mark m.Close) a → j ≡ a + 1
        → operand text ts limit below i ≡ got (t.Paren n e) j → is_begin (sort_at ts j) ≡ false → Chained i (t.Paren n e) j
    unfolding primary
    paren_front n e i j a low is p o next read off =
        record { turns = limit + 1; is = rw read refl; enough = omega arith; front = front_of i (s.Mark m.Open) is refl refl (cast_not text ts e i a is p o (rw next at off)) }

    chain_on : (n i : ℕ) (left up : Read Expr) → is_link text ts left.next ≡ true → link text ts limit below i left ≡ Some up → chain text ts limit below (suc n) i left ≡ chain text ts limit below n i up
    unfolding chain
    chain_on n i left up links read = rw (links, read) refl

    chain_end : (n i : ℕ) (left : Read Expr) → is_link text ts left.next ≡ false → chain text ts limit below (suc n) i left ≡ Some left
    unfolding chain
    chain_end n i left none = rw none refl

    link_dot : (j : ℕ) → Stands text ts (s.Mark m.Dot) j → is_link text ts j ≡ true
    unfolding is_link
    link_dot j is = rw (is_mark_has ts m.Dot j is) refl

    link_bracket : (j : ℕ) → Stands text ts (s.Mark m.LeftBracket) j → is_link text ts j ≡ true
    unfolding is_link
    link_bracket j is = rw (is_mark_not ts m.Dot j (λ e. let both = sym is ∙ e in cc), is_mark_has ts m.LeftBracket j is) refl

    link_not : (j : ℕ) → 0 < loose_at ts j → is_link text ts j ≡ false
    unfolding is_link
    link_not j h = rw (is_mark_not ts m.Dot j (not_dot ts j h), is_mark_not ts m.LeftBracket j (not_bracket ts j h)) refl

    field_again : (n : Node) (e : Expr) (x : Name) (i a j : ℕ) → expr_depth e < limit → n ≡ node_of text ts i j → Stands text ts (s.Mark m.Dot) a → IsId text ts x (a + 1) → j ≡ a + 2 → is_begin (sort_at ts j) ≡ false
        → link text ts limit below i (record { tree = e; depth = expr_depth e; next = a }) ≡ got (t.Field n e x) j
    unfolding link selected field_of
    field_again n e x i a j low node dot (is, name) next off =
        let two : a + 1 + 1 ≡ j = omega arith in
        rw (
          is_mark_has ts m.Dot a dot,
          after_mark_has ts m.Dot a dot,
          after_word_has ts (a + 1) is,
          two,
          after_mark_not ts m.Open j (begin_open _ off),
          rise_has limit (expr_depth e) low,
          node,
          name_is x (name_at ts (a + 1)) name,
        ) refl

    call_on_again : (n : Node) (e : Expr) (x : Name) (es : Exprs) (i a j : ℕ) → expr_depth e < limit → below_exprs es ≤ limit → n ≡ node_of text ts i j → Stands text ts (s.Mark m.Dot) a → IsId text ts x (a + 1)
        → Stands text ts (s.Mark m.Open) (a + 2) → AreValues text ts es (a + 3) j
        → link text ts limit below i (record { tree = e; depth = expr_depth e; next = a }) ≡ got (t.Call n (t.AnExpr e) x es) j
    unfolding link selected call_on
    call_on_again n e x es i a j low low' node dot (is, name) o vs =
        let two : a + 1 + 1 ≡ a + 2 = omega arith in
        let three : a + 2 + 1 ≡ a + 3 = omega arith in
        rw (
          is_mark_has ts m.Dot a dot,
          after_mark_has ts m.Dot a dot,
          after_word_has ts (a + 1) is,
          two,
          after_mark_has ts m.Open (a + 2) o,
          three,
          all_again r.Values es (a + 3) j low' vs,
          rise_has limit (expr_depth e) low,
          row-listed es,
          node,
          name_is x (name_at ts (a + 1)) name,
        ) refl

    index_again : (n : Node) (e x : Expr) (i a b j : ℕ) → expr_depth e < limit → expr_depth x < limit → n ≡ node_of text ts i j → (IsArrayCreation e → ⊥) → Stands text ts (s.Mark m.LeftBracket) a
        → Spells text ts 14 x (a + 1) b → Stands text ts (s.Mark m.RightBracket) b → j ≡ b + 1
        → link text ts limit below i (record { tree = e; depth = expr_depth e; next = a }) ≡ got (t.Index n e x) j
    unfolding link index
    index_again n e x i a b j low low' node apart o p o' next =
        let same = loose_is ts b (s.Mark m.RightBracket) o' in
        rw (
          is_mark_not ts m.Dot a (λ e. let both = sym o ∙ e in cc),
          no_creation_has e apart,
          after_mark_has ts m.LeftBracket a o,
          again 14 x (a + 1) b (omega arith) (omega arith) low' p (λ h. omega (arith, same)),
          after_mark_has ts m.RightBracket b o',
          rise_has limit (max (expr_depth e) (expr_depth x)) (omega arith),
          node,
          next,
        )
        (ap (λ d. Some (record { tree = t.Index (node_of text ts i (b + 1)) e x; depth = d; next = b + 1 })) (max_up (expr_depth e) (expr_depth x)))

    link_more : (i : ℕ) (e f : Expr) (a j : ℕ) → Chained i e a → is_link text ts a ≡ true → expr_depth e ≤ limit → expr_depth e < expr_depth f
        → link text ts limit below i (record { tree = e; depth = expr_depth e; next = a }) ≡ got f j → Chained i f j
    link_more i e f a j c links low deeper read =
        let turn : c.turns ≡ suc (c.turns - 1) = omega (arith, c.enough) in
        record {
          turns = c.turns - 1;
          is = c.is ∙ ap (λ n. chain text ts limit below n i (record { tree = e; depth = expr_depth e; next = a })) turn
              ∙ chain_on (c.turns - 1) i (record { tree = e; depth = expr_depth e; next = a }) (record { tree = f; depth = expr_depth f; next = j }) links read;
          enough = omega (arith, c.enough);
          front = c.front;
        }

    chained : (e : Expr) (i j : ℕ) → expr_depth e ≤ limit → Spells text ts 0 e i j → is_begin (sort_at ts j) ≡ false → (IsArrayCreation e → sort_at ts j ≢ s.Mark m.LeftBracket) → Chained i e j
    chained (t.Number n v d b) i j low h off apart = from_operand i (t.Number n v d b) j _ (number_again n v d b i j h) h.1 refl refl (λ e. cc)
    chained (t.Char n c) i j low h off apart = from_operand i (t.Char n c) j _ (char_again n c i j h) h.1 refl refl (λ e. cc)
    chained (t.Text n us) i j low h off apart = from_operand i (t.Text n us) j _ (text_again n us i j h) h.1 refl refl (λ e. cc)
    chained (t.Truth n true) i j low h off apart = from_operand i (t.Truth n true) j _ (truth_again n true i j h) h.1 refl refl (λ e. cc)
    chained (t.Truth n false) i j low h off apart = from_operand i (t.Truth n false) j _ (truth_again n false i j h) h.1 refl refl (λ e. cc)
    chained (t.Null n) i j low h off apart = from_operand i (t.Null n) j _ (null_again n i j h) h.1 refl refl (λ e. cc)
    chained (t.This n) i j low h off apart = from_operand i (t.This n) j _ (this_again n i j h) h.1 refl refl (λ e. cc)
    chained (t.Name n x) i j low h off apart = from_operand i (t.Name n x) j s.Word (name_again n x i j h off) h.1.0 refl refl (λ e. cc)
    chained (t.Field n e x) i j low (node, a, p, dot, id, next) off apart =
        let c = chained e i a (omega arith) p (rw dot refl) (λ q e. let both = sym dot ∙ e in cc) in
        link_more i e (t.Field n e x) a j c (link_dot a dot) (omega arith) (omega arith) (field_again n e x i a j (omega arith) node dot id next off)
    chained (t.SuperField n x) i j low h off apart = from_operand i (t.SuperField n x) j _ (super_field_again n x i j h off) h.1 refl refl (λ e. cc)
    chained (t.Index n e x) i j low (node, flat, a, p, o, b, q, o', next) off apart =
        let c = chained e i a (omega arith) p (rw o refl) (λ q. absurd (flat q)) in
        link_more i e (t.Index n e x) a j c (link_bracket a o) (omega arith) (omega arith) (index_again n e x i a b j (omega arith) (omega arith) node flat o q o' next)
    chained (t.Call n t.NoExpr x es) i j low h off apart = from_operand i (t.Call n t.NoExpr x es) j s.Word (call_again n x es i j low h) h.1.0 refl refl (λ e. cc)
    chained (t.Call n (t.AnExpr e) x es) i j low (node, a, p, dot, id, o, vs) off apart =
        let c = chained e i a (omega arith) p (rw dot refl) (λ q e. let both = sym dot ∙ e in cc) in
        link_more i e (t.Call n (t.AnExpr e) x es) a j c (link_dot a dot) (omega arith) (omega arith) (call_on_again n e x es i a j (omega arith) (omega arith) node dot id o vs)
    chained (t.SuperMethod n x es) i j low h off apart = from_operand i (t.SuperMethod n x es) j _ (super_method_again n x es i j low h) h.1 refl refl (λ e. cc)
    chained (t.New n ty es) i j low h off apart = from_operand i (t.New n ty es) j _ (new_again n ty es i j (omega arith) (omega arith) h) h.1 refl refl (λ e. cc)
    chained (t.NewArray n ty es d) i j low h off apart = from_operand i (t.NewArray n ty es d) j _ (array_again n ty es d i j (omega arith) (omega arith) h (apart tt)) h.1 refl refl (λ e. cc)
    chained (t.NewFilled n ty e) i j low h off apart = from_operand i (t.NewFilled n ty e) j _ (filled_again n ty e i j (omega arith) (omega arith) h) h.1 refl refl (λ e. cc)
    chained (t.Items n es) i j low (node, loose, is, p) off apart = absurd (omega arith)
    chained (t.Paren n e) i j low (node, is, a, p, o, next) off apart = paren_front n e i j a (omega arith) is p o next (paren_again n e i j (omega arith) (node, is, a, p, o, next)) off
    chained (t.Unary n x e) i j low (node, loose, is, p) off apart = absurd (omega arith)
    chained (t.Step n up true e) i j low (node, loose, is, q, p) off apart = absurd (omega arith)
    chained (t.Step n up false e) i j low (node, loose, q, a, p, o, next) off apart = absurd (omega arith)
    chained (t.Cast n ty c e) i j low (node, loose, is, a, p, o, from, may, q) off apart = absurd (omega arith)
    chained (t.Binary n x a b) i j low (node, loose, c, p, d, o, q) off apart = absurd (omega (arith, (tightest x).0))
    chained (t.InstanceOf n e ty) i j low (node, loose, a, p, o, none, q) off apart = absurd (omega arith)
    chained (t.Cond n a b c) i j low (node, loose, d, p, o, f, q, o', q') off apart = absurd (omega arith)
    chained (t.Assign n x a b) i j low (node, loose, q, c, p, d, o, w) off apart = absurd (omega arith)

    primary_again : (e : Expr) (i j : ℕ) → expr_depth e ≤ limit → Chained i e j → 0 < loose_at ts j → primary text ts limit below i ≡ got e j
    primary_again e i j low c ends =
        let turn : c.turns ≡ suc (c.turns - 1) = omega (arith, c.enough) in
        c.is ∙ ap (λ n. chain text ts limit below n i (record { tree = e; depth = expr_depth e; next = j })) turn ∙ chain_end (c.turns - 1) i (record { tree = e; depth = expr_depth e; next = j }) (link_not j ends)

    -- ---- what stands before an operand

    postfix_alone : (e : Expr) (i j : ℕ) → primary text ts limit below i ≡ got e j → 1 < loose_at ts j → postfix text ts limit below i ≡ got e j
    unfolding postfix
    postfix_alone e i j read ends = rw (read, not_step ts j ends) refl

    postfix_step : (n : Node) (up : Bool) (e : Expr) (i a j : ℕ) → primary text ts limit below i ≡ got e a → expr_depth e < limit → n ≡ node_of text ts i j → IsVariable e → Stands text ts (s.Step up) a → j ≡ a + 1
        → postfix text ts limit below i ≡ got (t.Step n up false e) j
    unfolding postfix stepped
    postfix_step n up e i a j read low node variable is next = rw (read, is, is_variable_has e variable, rise_has limit (expr_depth e) low, node, next) refl

    signed_again : (n : Node) (x : UnOp) (e : Expr) (i j : ℕ) → expr_depth e < limit → n ≡ node_of text ts i j → Stands text ts (prefix_sort x) i → Spells text ts 2 e (i + 1) j → 2 < loose_at ts j
        → unary text ts limit below i ≡ got (t.Unary n x e) j
    unfolding unary signed
    signed_again n x e i j low node is p ends =
        rw (is, prefix_has x, again 2 e (i + 1) j (omega arith) (omega arith) low p (λ h. ends), rise_has limit (expr_depth e) low, node) refl

    stepping_again : (n : Node) (up : Bool) (e : Expr) (i j : ℕ) → expr_depth e < limit → n ≡ node_of text ts i j → Stands text ts (s.Step up) i → IsVariable e → Spells text ts 2 e (i + 1) j → 2 < loose_at ts j
        → unary text ts limit below i ≡ got (t.Step n up true e) j
    unfolding unary stepping
    stepping_again n up e i j low node is variable p ends =
        rw (is, again 2 e (i + 1) j (omega arith) (omega arith) low p (λ h. ends), is_variable_has e variable, rise_has limit (expr_depth e) low, node) refl

    may_has : (ty : TypeExpr) (i : ℕ) → MayBeCast text ts ty i → may_be_cast text ts ty i ≡ true
    may_has ty i (inl prim) = rw (is_primitive_has ty prim) refl
    may_has ty i (inr apart) = rw (no_sign_has text ts (sort_at ts i) apart) (or_right (is_primitive ty))

    cast_again : (n : Node) (ty : TypeExpr) (c : ℕ) (e : Expr) (i a j : ℕ) → type_depth ty < limit → expr_depth e < limit → n ≡ node_of text ts i j → Stands text ts (s.Mark m.Open) i → SpellsType text ts ty (i + 1) a
        → Stands text ts (s.Mark m.Close) a → c ≡ from_at ts a → MayBeCast text ts ty (a + 1) → Spells text ts 2 e (a + 1) j → 2 < loose_at ts j → unary text ts limit below i ≡ got (t.Cast n ty c e) j
    unfolding unary cast cast_to
    cast_again n ty c e i a j low low' node is p o from may q ends =
        let closed = closed_at ts a (s.Mark m.Close) o (λ e. cc) (λ e. cc) (λ e. cc) in
        rw (
          cast_has text ts ty e i a j is p o may q,
          is,
          type_again text ts limit ty (i + 1) a low p closed,
          after_mark_has ts m.Close a o,
          may_has ty (a + 1) may,
          again 2 e (a + 1) j (omega arith) (omega arith) low' q (λ h. ends),
          rise_has limit (max (type_depth ty) (expr_depth e)) (omega arith),
          node,
          from,
        )
        (ap (λ d. Some (record { tree = t.Cast (node_of text ts i j) ty (from_at ts a) e; depth = d; next = j })) (max_up (type_depth ty) (expr_depth e)))

    unary_front : (e : Expr) (i j : ℕ) → expr_depth e ≤ limit → Spells text ts 0 e i j → 2 < loose_at ts j → unary text ts limit below i ≡ got e j
    unary_front e i j low h ends =
        let c = chained e i j low h (not_begin ts j (omega arith)) (λ q. not_bracket ts j (omega arith)) in
        c.front ∙ postfix_alone e i j (primary_again e i j low c (omega arith)) (omega arith)

    unary_again : (e : Expr) (i j : ℕ) → expr_depth e ≤ limit → Spells text ts 2 e i j → 2 < loose_at ts j → unary text ts limit below i ≡ got e j
    unary_again (t.Number n v d b) i j low h ends = unary_front (t.Number n v d b) i j low h ends
    unary_again (t.Char n c) i j low h ends = unary_front (t.Char n c) i j low h ends
    unary_again (t.Text n us) i j low h ends = unary_front (t.Text n us) i j low h ends
    unary_again (t.Truth n b) i j low h ends = unary_front (t.Truth n b) i j low h ends
    unary_again (t.Null n) i j low h ends = unary_front (t.Null n) i j low h ends
    unary_again (t.This n) i j low h ends = unary_front (t.This n) i j low h ends
    unary_again (t.Name n x) i j low h ends = unary_front (t.Name n x) i j low h ends
    unary_again (t.Field n e x) i j low h ends = unary_front (t.Field n e x) i j low h ends
    unary_again (t.SuperField n x) i j low h ends = unary_front (t.SuperField n x) i j low h ends
    unary_again (t.Index n a b) i j low h ends = unary_front (t.Index n a b) i j low h ends
    unary_again (t.Call n t.NoExpr x es) i j low h ends = unary_front (t.Call n t.NoExpr x es) i j low h ends
    unary_again (t.Call n (t.AnExpr e) x es) i j low h ends = unary_front (t.Call n (t.AnExpr e) x es) i j low h ends
    unary_again (t.SuperMethod n x es) i j low h ends = unary_front (t.SuperMethod n x es) i j low h ends
    unary_again (t.New n ty es) i j low h ends = unary_front (t.New n ty es) i j low h ends
    unary_again (t.NewArray n ty es d) i j low h ends = unary_front (t.NewArray n ty es d) i j low h ends
    unary_again (t.NewFilled n ty e) i j low h ends = unary_front (t.NewFilled n ty e) i j low h ends
    unary_again (t.Items n es) i j low (node, loose, is, p) ends = absurd (omega arith)
    unary_again (t.Paren n e) i j low h ends = unary_front (t.Paren n e) i j low h ends
    unary_again (t.Unary n x e) i j low (node, loose, is, p) ends = signed_again n x e i j (omega arith) node is p ends
    unary_again (t.Step n up true e) i j low (node, loose, is, q, p) ends = stepping_again n up e i j (omega arith) node is q p ends
    unary_again (t.Step n up false e) i j low (node, loose, q, a, p, is, next) ends =
        let c = chained e i a (omega arith) p (rw is refl) (λ q e. let both = sym is ∙ e in cc) in
        let one = loose_is ts a (s.Step up) is in
        c.front ∙ postfix_step n up e i a j (primary_again e i a (omega arith) c (omega (arith, one))) (omega arith) node q is next
    unary_again (t.Cast n ty c e) i j low (node, loose, is, a, p, o, from, may, q) ends = cast_again n ty c e i a j (omega arith) (omega arith) node is p o from may q ends
    unary_again (t.Binary n x a b) i j low (node, loose, c, p, d, o, q) ends = absurd (omega (arith, (tightest x).0))
    unary_again (t.InstanceOf n e ty) i j low (node, loose, a, p, o, none, q) ends = absurd (omega arith)
    unary_again (t.Cond n a b c) i j low (node, loose, d, p, o, f, q, o', q') ends = absurd (omega arith)
    unary_again (t.Assign n x a b) i j low (node, loose, q, c, p, d, o, w) ends = absurd (omega arith)

    -- ---- infix operators

    -- reading at a looseness comes to the point where `climb` goes on behind e; `first` is the operand that stands first
    record Reached (k i : ℕ) (e : Expr) (j : ℕ) : Type 0 where
      first : Read Expr
      unary_is : unary text ts limit below i ≡ Some first
      free : assign_at ts j ≡ None → assign_at ts first.next ≡ None
      turns : ℕ
      is : climb text ts limit below k (limit + 1) i first ≡ climb text ts limit below k turns i (record { tree = e; depth = expr_depth e; next = j })
      enough : limit + 1 ≤ turns + expr_depth e

    reach_unary : (k : ℕ) (e : Expr) (i j : ℕ) → expr_depth e ≤ limit → Spells text ts 2 e i j → 2 < loose_at ts j → Reached k i e j
    reach_unary k e i j low h ends = record {
      first = record { tree = e; depth = expr_depth e; next = j };
      unary_is = unary_again e i j low h ends;
      free = λ none. none;
      turns = limit + 1;
      is = refl;
      enough = omega arith;
    }

    climb_on : (k n i : ℕ) (left up : Read Expr) → level_at ts left.next ≤ k → tied text ts limit below i left ≡ Some up → climb text ts limit below k (suc n) i left ≡ climb text ts limit below k n i up
    unfolding climb
    climb_on k n i left up le read = let test : nat_lt k (level_at ts left.next) ≡ false = grind (arith, nat_tests) in rw (test, read) refl

    climb_end : (k n i : ℕ) (left : Read Expr) → k < level_at ts left.next → climb text ts limit below k (suc n) i left ≡ Some left
    unfolding climb
    climb_end k n i left loose = let test : nat_lt k (level_at ts left.next) ≡ true = grind (arith, nat_tests) in rw test refl

    joined_again : (n : Node) (x : BinOp) (a b : Expr) (i c d j : ℕ) → expr_depth a < limit → expr_depth b < limit → n ≡ node_of text ts i j → infix_at ts c ≡ Some (standing x d)
        → Spells text ts (level_of x - 1) b d j → level_of x - 1 < loose_at ts j
        → tied text ts limit below i (record { tree = a; depth = expr_depth a; next = c }) ≡ got (t.Binary n x a b) j
    unfolding tied joined
    joined_again n x a b i c d j low low' node found q ends =
        rw (found, again (level_of x - 1) b d j (omega (arith, (tightest x).0)) (omega (arith, (tightest x).1)) low' q (λ h. ends), rise_has limit (max (expr_depth a) (expr_depth b)) (omega arith), node)
        (ap (λ d. Some (record { tree = t.Binary (node_of text ts i j) x a b; depth = d; next = j })) (max_up (expr_depth a) (expr_depth b)))

    flat_depth : (ty : TypeExpr) → HasNoArguments ty → type_depth ty ≡ 0
    flat_depth (t.Written n h span args d) e = rw e refl

    asked_again : (n : Node) (e : Expr) (ty : TypeExpr) (i a j : ℕ) → expr_depth e < limit → n ≡ node_of text ts i j → Stands text ts (s.Keyword word.InstanceOf) a → infix_at ts a ≡ None → HasNoArguments ty
        → SpellsType text ts ty (a + 1) j → 5 < loose_at ts j → tied text ts limit below i (record { tree = e; depth = expr_depth e; next = a }) ≡ got (t.InstanceOf n e ty) j
    unfolding tied asked
    asked_again n e ty i a j low node is none flat q ends =
        let behind = loose_level ts 5 j (omega arith) ends in
        let test : nat_lt (level_at ts j) 6 ≡ false = grind (arith, nat_tests) in
        let zero_deep = flat_depth ty flat in
        rw (
          none,
          after_keyword_has ts word.InstanceOf a is,
          bare_again text ts ty (a + 1) j q flat (not_dot ts j (omega arith)) (no_pair_at ts j (not_bracket ts j (omega arith))),
          test,
          rise_has limit (max (expr_depth e) (type_depth ty)) (omega (arith, zero_deep)),
          node,
        )
        (ap (λ d. Some (record { tree = t.InstanceOf (node_of text ts i j) e ty; depth = d; next = j })) (max_up (expr_depth e) (type_depth ty)))

    reach_more : (k i : ℕ) (e f : Expr) (a j : ℕ) → Reached k i e a → level_at ts a ≤ k → expr_depth e ≤ limit → expr_depth e < expr_depth f → assign_at ts a ≡ None
        → tied text ts limit below i (record { tree = e; depth = expr_depth e; next = a }) ≡ got f j → Reached k i f j
    reach_more k i e f a j c le low deeper none read =
        let turn : c.turns ≡ suc (c.turns - 1) = omega (arith, c.enough) in
        record {
          first = c.first;
          unary_is = c.unary_is;
          free = λ any. c.free none;
          turns = c.turns - 1;
          is = c.is ∙ ap (λ n. climb text ts limit below k n i (record { tree = e; depth = expr_depth e; next = a })) turn
              ∙ climb_on k (c.turns - 1) i (record { tree = e; depth = expr_depth e; next = a }) (record { tree = f; depth = expr_depth f; next = j }) le read;
          enough = omega (arith, c.enough);
        }

    asks_none : (a : ℕ) → Stands text ts (s.Keyword word.InstanceOf) a → (infix_at ts a ≡ None) × (assign_at ts a ≡ None)
    unfolding infix_at assign_at
    asks_none a is = (rw is refl, rw is refl)

    reach : (k l : ℕ) (e : Expr) (i j : ℕ) → 3 ≤ l → l ≤ k → k ≤ 12 → expr_depth e ≤ limit → Spells text ts l e i j → l - 1 < loose_at ts j → Reached k i e j
    reach k l (t.Number n v d b) i j some le most low h ends = reach_unary k (t.Number n v d b) i j low h (omega arith)
    reach k l (t.Char n c) i j some le most low h ends = reach_unary k (t.Char n c) i j low h (omega arith)
    reach k l (t.Text n us) i j some le most low h ends = reach_unary k (t.Text n us) i j low h (omega arith)
    reach k l (t.Truth n b) i j some le most low h ends = reach_unary k (t.Truth n b) i j low h (omega arith)
    reach k l (t.Null n) i j some le most low h ends = reach_unary k (t.Null n) i j low h (omega arith)
    reach k l (t.This n) i j some le most low h ends = reach_unary k (t.This n) i j low h (omega arith)
    reach k l (t.Name n x) i j some le most low h ends = reach_unary k (t.Name n x) i j low h (omega arith)
    reach k l (t.Field n e x) i j some le most low h ends = reach_unary k (t.Field n e x) i j low h (omega arith)
    reach k l (t.SuperField n x) i j some le most low h ends = reach_unary k (t.SuperField n x) i j low h (omega arith)
    reach k l (t.Index n a b) i j some le most low h ends = reach_unary k (t.Index n a b) i j low h (omega arith)
    reach k l (t.Call n t.NoExpr x es) i j some le most low h ends = reach_unary k (t.Call n t.NoExpr x es) i j low h (omega arith)
    reach k l (t.Call n (t.AnExpr e) x es) i j some le most low h ends = reach_unary k (t.Call n (t.AnExpr e) x es) i j low h (omega arith)
    reach k l (t.SuperMethod n x es) i j some le most low h ends = reach_unary k (t.SuperMethod n x es) i j low h (omega arith)
    reach k l (t.New n ty es) i j some le most low h ends = reach_unary k (t.New n ty es) i j low h (omega arith)
    reach k l (t.NewArray n ty es d) i j some le most low h ends = reach_unary k (t.NewArray n ty es d) i j low h (omega arith)
    reach k l (t.NewFilled n ty e) i j some le most low h ends = reach_unary k (t.NewFilled n ty e) i j low h (omega arith)
    reach k l (t.Items n es) i j some le most low (node, loose, is, p) ends = absurd (omega arith)
    reach k l (t.Paren n e) i j some le most low h ends = reach_unary k (t.Paren n e) i j low h (omega arith)
    reach k l (t.Unary n x e) i j some le most low (node, loose, is, p) ends = reach_unary k (t.Unary n x e) i j low (node, omega arith, is, p) (omega arith)
    reach k l (t.Step n up true e) i j some le most low (node, loose, is, q, p) ends = reach_unary k (t.Step n up true e) i j low (node, omega arith, is, q, p) (omega arith)
    reach k l (t.Step n up false e) i j some le most low (node, loose, q, a, p, is, next) ends = reach_unary k (t.Step n up false e) i j low (node, omega arith, q, a, p, is, next) (omega arith)
    reach k l (t.Cast n ty c e) i j some le most low (node, loose, is, a, p, o, from, may, q) ends = reach_unary k (t.Cast n ty c e) i j low (node, omega arith, is, a, p, o, from, may, q) (omega arith)
    reach k l (t.Binary n x a b) i j some le most low (node, loose, c, p, d, o, q) ends =
        let tight = tightest x in
        let on = Spells-starts text ts (level_of x - 1) b d j (omega (arith, tight.1)) q in
        let found = infix_has text ts x c d o on in
        let behind = loose_infix ts c (standing x d) found in
        let at_level = level_infix text ts c (standing x d) found in
        let left = reach k (level_of x) a i c (omega (arith, tight.0)) (omega arith) most (omega arith) p (omega (arith, behind, tight.0)) in
        reach_more k i a (t.Binary n x a b) c j left (omega (arith, at_level)) (omega arith) (omega arith) (infix_no_assign text ts x c d o on)
        (joined_again n x a b i c d j (omega arith) (omega arith) node found q (omega arith))
    reach k l (t.InstanceOf n e ty) i j some le most low (node, loose, a, p, is, flat, q) ends =
        let six = loose_is ts a (s.Keyword word.InstanceOf) is in
        let none = asks_none a is in
        let at_level = level_asked text ts a none.0 is in
        let left = reach k 6 e i a (omega arith) (omega arith) most (omega arith) p (omega (arith, six)) in
        reach_more k i e (t.InstanceOf n e ty) a j left (omega (arith, at_level)) (omega arith) (omega arith) none.1
        (asked_again n e ty i a j (omega arith) node is none.0 flat q (omega arith))
    reach k l (t.Cond n a b c) i j some le most low (node, loose, d, p, o, f, q, o', q') ends = absurd (omega arith)
    reach k l (t.Assign n x a b) i j some le most low (node, loose, q, c, p, d, o, w) ends = absurd (omega arith)

    -- ---- conditionals, assignments and items

    assigns_none : (k : ℕ) (left : Read Expr) → assign_at ts left.next ≡ None → assigns text ts k left ≡ None
    unfolding assigns
    assigns_none k left none = by_test (nat_lt 13 k)
      where
        by_test : (b : Bool) → cond b (assign_at ts left.next >>= (λ x. cond (is_variable left.tree) (Some x) None)) None ≡ None
        by_test true = rw none refl
        by_test false = refl

    assigns_tight : (k : ℕ) (left : Read Expr) → k ≤ 13 → assigns text ts k left ≡ None
    unfolding assigns
    assigns_tight k left le = let test : nat_lt 13 k ≡ false = grind (arith, nat_tests) in rw test refl

    asks_not : (k j : ℕ) → k < loose_at ts j → asks text ts k j ≡ None
    unfolding asks
    asks_not k j ends = by_test (nat_lt 12 k) refl
      where
        by_test : (b : Bool) → nat_lt 12 k ≡ b → cond b (after_mark ts m.Question j) None ≡ None
        by_test true is = let loose : 12 < k = grind (arith, nat_tests) in after_mark_not ts m.Question j (not_question ts j (omega arith))
        by_test false is = refl

    opens_not : (k i : ℕ) → sort_at ts i ≢ s.Mark m.LeftBrace → opens text ts k i ≡ None
    unfolding opens
    opens_not k i other = by_test (nat_lt 14 k)
      where
        by_test : (b : Bool) → cond b (after_mark ts m.LeftBrace i) None ≡ None
        by_test true = after_mark_not ts m.LeftBrace i other
        by_test false = refl

    climb_whole : (k i : ℕ) (e : Expr) (j : ℕ) (c : Reached (min k 12) i e j) → expr_depth e ≤ limit → min k 12 < loose_at ts j → climb text ts limit below (min k 12) (limit + 1) i c.first ≡ got e j
    climb_whole k i e j c low ends =
        let turn : c.turns ≡ suc (c.turns - 1) = omega (arith, c.enough) in
        let behind = loose_level ts (min k 12) j (omega arith) ends in
        c.is ∙ ap (λ n. climb text ts limit below (min k 12) n i (record { tree = e; depth = expr_depth e; next = j })) turn
        ∙ climb_end (min k 12) (c.turns - 1) i (record { tree = e; depth = expr_depth e; next = j }) behind

    conditional_alone : (k i : ℕ) (first : Read Expr) (e : Expr) (j : ℕ) → climb text ts limit below (min k 12) (limit + 1) i first ≡ got e j → asks text ts k j ≡ None → conditional text ts limit below k i first ≡ got e j
    unfolding conditional
    conditional_alone k i first e j read none = rw (read, none) refl

    expression_from : (k i : ℕ) (first : Read Expr) (e : Expr) (j : ℕ) → unary text ts limit below i ≡ Some first → assigns text ts k first ≡ None → conditional text ts limit below k i first ≡ got e j
        → expression text ts limit below k i ≡ got e j
    unfolding expression
    expression_from k i first e j read none rest = rw (read, none) rest

    assigns_free : (k i : ℕ) (e : Expr) (j l : ℕ) (c : Reached l i e j) → (14 ≤ k → assign_at ts j ≡ None) → assigns text ts k c.first ≡ None
    assigns_free k i e j l c free = by_level (tight_or_loose k)
      where
        tight_or_loose : (k : ℕ) → (k ≤ 13) ⊎ (14 ≤ k)
        tight_or_loose k = grind arith

        by_level : (k ≤ 13) ⊎ (14 ≤ k) → assigns text ts k c.first ≡ None
        by_level (inl h) = assigns_tight k c.first h
        by_level (inr h) = assigns_none k c.first (c.free (free h))

    expression_alone : (k i : ℕ) (e : Expr) (j : ℕ) → Reached (min k 12) i e j → expr_depth e ≤ limit → k < loose_at ts j → expression text ts limit below k i ≡ got e j
    expression_alone k i e j c low ends =
        expression_from k i c.first e j c.unary_is (assigns_free k i e j (min k 12) c (λ h. not_assign ts j (omega arith)))
        (conditional_alone k i c.first e j (climb_whole k i e j c low (omega arith)) (asks_not k j ends))

    chosen_again : (n : Node) (a b c : Expr) (i d f j : ℕ) → expr_depth b < limit → expr_depth c < limit → expr_depth a < limit → n ≡ node_of text ts i j → Spells text ts 14 b (d + 1) f → Stands text ts (s.Mark m.Colon) f
        → Spells text ts 13 c (f + 1) j → 13 < loose_at ts j → chosen text ts limit below i (record { tree = a; depth = expr_depth a; next = d }) (d + 1) ≡ got (t.Cond n a b c) j
    unfolding chosen chosen_else
    chosen_again n a b c i d f j low low' low'' node p o q ends =
        let same = loose_is ts f (s.Mark m.Colon) o in
        let high : max (expr_depth a) (max (expr_depth b) (expr_depth c)) + 1 ≡ max (expr_depth a + 1) (max (expr_depth b + 1) (expr_depth c + 1)) = omega arith in
        rw (
          again 14 b (d + 1) f (omega arith) (omega arith) low p (λ h. omega (arith, same)),
          after_mark_has ts m.Colon f o,
          again 13 c (f + 1) j (omega arith) (omega arith) low' q (λ h. ends),
          rise_has limit (max (expr_depth a) (max (expr_depth b) (expr_depth c))) (omega arith),
          node,
        )
        (ap (λ d. Some (record { tree = t.Cond (node_of text ts i j) a b c; depth = d; next = j })) high)

    conditional_chosen : (k i : ℕ) (first : Read Expr) (e f : Expr) (d j : ℕ) → 13 ≤ k → climb text ts limit below (min k 12) (limit + 1) i first ≡ got e d → Stands text ts (s.Mark m.Question) d
        → chosen text ts limit below i (record { tree = e; depth = expr_depth e; next = d }) (d + 1) ≡ got f j → conditional text ts limit below k i first ≡ got f j
    unfolding conditional asks
    conditional_chosen k i first e f d j loose read o rest =
        let test : nat_lt 12 k ≡ true = grind (arith, nat_tests) in
        rw (read, test, after_mark_has ts m.Question d o) rest

    question_none : (a : ℕ) → Stands text ts (s.Mark m.Question) a → assign_at ts a ≡ None
    unfolding assign_at
    question_none a is = rw is refl

    assigns_has : (k : ℕ) (e : Expr) (a : ℕ) (y : Standing (Option BinOp)) → 14 ≤ k → IsVariable e → assign_at ts a ≡ Some y → assigns text ts k (record { tree = e; depth = expr_depth e; next = a }) ≡ Some y
    unfolding assigns
    assigns_has k e a y loose variable found =
        let test : nat_lt 13 k ≡ true = grind (arith, nat_tests) in
        rw (test, found, is_variable_has e variable) refl

    assign_again : (k : ℕ) (n : Node) (x : Option BinOp) (a b : Expr) (i c d j : ℕ) → 14 ≤ k → expr_depth a < limit → expr_depth b < limit → n ≡ node_of text ts i j → IsVariable a → unary text ts limit below i ≡ got a c
        → assign_at ts c ≡ Some (standing x d) → Spells text ts 14 b d j → 14 < loose_at ts j → expression text ts limit below k i ≡ got (t.Assign n x a b) j
    unfolding expression assigned
    assign_again k n x a b i c d j loose low low' node variable read found q ends =
        rw (read, assigns_has k a c (standing x d) loose variable found, again 14 b d j (omega arith) (omega arith) low' q (λ h. ends), rise_has limit (max (expr_depth a) (expr_depth b)) (omega arith), node)
        (ap (λ d. Some (record { tree = t.Assign (node_of text ts i j) x a b; depth = d; next = j })) (max_up (expr_depth a) (expr_depth b)))

    items_again : (k : ℕ) (n : Node) (es : Exprs) (i j : ℕ) → 15 ≤ k → below_exprs es ≤ limit → n ≡ node_of text ts i j → Stands text ts (s.Mark m.LeftBrace) i → AreItems text ts es (i + 1) j
        → level text ts limit below k i ≡ got (t.Items n es) j
    unfolding level opens items
    items_again k n es i j loose low node is p =
        let test : nat_lt 14 k ≡ true = grind (arith, nat_tests) in
        rw (test, after_mark_has ts m.LeftBrace i is, all_again r.Items es (i + 1) j low p, row-listed es, node) refl

    level_of_expression : (k i : ℕ) (e : Expr) (j : ℕ) → starts (sort_at ts i) ≡ true → expression text ts limit below k i ≡ got e j → level text ts limit below k i ≡ got e j
    unfolding level
    level_of_expression k i e j on read = rw (opens_not k i (start_apart i (s.Mark m.LeftBrace) on refl)) read

    level_front : (k : ℕ) (e : Expr) (i j : ℕ) → 2 ≤ k → expr_depth e ≤ limit → Spells text ts 2 e i j → k < loose_at ts j → level text ts limit below k i ≡ got e j
    level_front k e i j least low h ends =
        level_of_expression k i e j (Spells-starts text ts 2 e i j (omega arith) h) (expression_alone k i e j (reach_unary (min k 12) e i j low h (omega arith)) low ends)

    pub level_again : (k : ℕ) (e : Expr) (i j : ℕ) → 2 ≤ k → k ≤ 15 → expr_depth e ≤ limit → Spells text ts k e i j → ((IsItems e → ⊥) → k < loose_at ts j) → level text ts limit below k i ≡ got e j
    level_again k (t.Number n v d b) i j least most low h ends = level_front k (t.Number n v d b) i j least low h (ends (λ q. q))
    level_again k (t.Char n c) i j least most low h ends = level_front k (t.Char n c) i j least low h (ends (λ q. q))
    level_again k (t.Text n us) i j least most low h ends = level_front k (t.Text n us) i j least low h (ends (λ q. q))
    level_again k (t.Truth n b) i j least most low h ends = level_front k (t.Truth n b) i j least low h (ends (λ q. q))
    level_again k (t.Null n) i j least most low h ends = level_front k (t.Null n) i j least low h (ends (λ q. q))
    level_again k (t.This n) i j least most low h ends = level_front k (t.This n) i j least low h (ends (λ q. q))
    level_again k (t.Name n x) i j least most low h ends = level_front k (t.Name n x) i j least low h (ends (λ q. q))
    level_again k (t.Field n e x) i j least most low h ends = level_front k (t.Field n e x) i j least low h (ends (λ q. q))
    level_again k (t.SuperField n x) i j least most low h ends = level_front k (t.SuperField n x) i j least low h (ends (λ q. q))
    level_again k (t.Index n a b) i j least most low h ends = level_front k (t.Index n a b) i j least low h (ends (λ q. q))
    level_again k (t.Call n t.NoExpr x es) i j least most low h ends = level_front k (t.Call n t.NoExpr x es) i j least low h (ends (λ q. q))
    level_again k (t.Call n (t.AnExpr e) x es) i j least most low h ends = level_front k (t.Call n (t.AnExpr e) x es) i j least low h (ends (λ q. q))
    level_again k (t.SuperMethod n x es) i j least most low h ends = level_front k (t.SuperMethod n x es) i j least low h (ends (λ q. q))
    level_again k (t.New n ty es) i j least most low h ends = level_front k (t.New n ty es) i j least low h (ends (λ q. q))
    level_again k (t.NewArray n ty es d) i j least most low h ends = level_front k (t.NewArray n ty es d) i j least low h (ends (λ q. q))
    level_again k (t.NewFilled n ty e) i j least most low h ends = level_front k (t.NewFilled n ty e) i j least low h (ends (λ q. q))
    level_again k (t.Items n es) i j least most low (node, loose, is, p) ends = items_again k n es i j loose low node is p
    level_again k (t.Paren n e) i j least most low h ends = level_front k (t.Paren n e) i j least low h (ends (λ q. q))
    level_again k (t.Unary n x e) i j least most low (node, loose, is, p) ends = level_front k (t.Unary n x e) i j least low (node, omega arith, is, p) (ends (λ q. q))
    level_again k (t.Step n up true e) i j least most low (node, loose, is, q, p) ends = level_front k (t.Step n up true e) i j least low (node, omega arith, is, q, p) (ends (λ q. q))
    level_again k (t.Step n up false e) i j least most low (node, loose, q, a, p, is, next) ends =
        level_front k (t.Step n up false e) i j least low (node, omega arith, q, a, p, is, next) (ends (λ q. q))
    level_again k (t.Cast n ty c e) i j least most low (node, loose, is, a, p, o, from, may, q) ends =
        level_front k (t.Cast n ty c e) i j least low (node, omega arith, is, a, p, o, from, may, q) (ends (λ q. q))
    level_again k (t.Binary n x a b) i j least most low (node, loose, c, p, d, o, q) ends =
        let tight = tightest x in
        let last = ends (λ q. q) in
        let spells : Spells text ts (min k 12) (t.Binary n x a b) i j = (node, omega (arith, tight.1), c, p, d, o, q) in
        level_of_expression k i (t.Binary n x a b) j (Spells-starts text ts (level_of x) a i c (omega (arith, tight.1)) p)
        (expression_alone k i (t.Binary n x a b) j (reach (min k 12) (min k 12) (t.Binary n x a b) i j (omega (arith, tight.0)) (omega arith) (omega arith) low spells (omega arith)) low last)
    level_again k (t.InstanceOf n e ty) i j least most low (node, loose, a, p, is, flat, q) ends =
        let last = ends (λ q. q) in
        let spells : Spells text ts (min k 12) (t.InstanceOf n e ty) i j = (node, omega arith, a, p, is, flat, q) in
        level_of_expression k i (t.InstanceOf n e ty) j (Spells-starts text ts 6 e i a (omega arith) p)
        (expression_alone k i (t.InstanceOf n e ty) j (reach (min k 12) (min k 12) (t.InstanceOf n e ty) i j (omega arith) (omega arith) (omega arith) low spells (omega arith)) low last)
    level_again k (t.Cond n a b c) i j least most low (node, loose, d, p, o, f, q, o', q') ends =
        let last = ends (λ q. q) in
        let same = loose_is ts d (s.Mark m.Question) o in
        let twelve : min k 12 ≡ 12 = omega arith in
        let first = reach (min k 12) 12 a i d (omega arith) (omega arith) (omega arith) (omega arith) p (omega (arith, same)) in
        level_of_expression k i (t.Cond n a b c) j (Spells-starts text ts 12 a i d (omega arith) p)
        (expression_from k i first.first (t.Cond n a b c) j first.unary_is (assigns_free k i a d (min k 12) first (λ h. question_none d o))
        (conditional_chosen k i first.first a (t.Cond n a b c) d j loose (climb_whole k i a d first (omega arith) (omega (arith, same))) o
        (chosen_again n a b c i d f j (omega arith) (omega arith) (omega arith) node q o' q' (omega arith))))
    level_again k (t.Assign n x a b) i j least most low (node, loose, variable, c, p, d, o, q) ends =
        let last = ends (λ q. q) in
        let on = Spells-starts text ts 14 b d j (omega arith) q in
        let found = assign_has text ts x c d o on in
        let same = loose_assign ts c (standing x d) found.1 found.0 in
        level_of_expression k i (t.Assign n x a b) j (Spells-starts text ts 2 a i c (omega arith) p)
        (assign_again k n x a b i c d j loose (omega arith) (omega arith) node variable (unary_again a i c (omega arith) p (omega (arith, same))) found.0 q (omega arith))

  pub parse_again : (limit k : ℕ) (e : Expr) (i j : ℕ) → 2 ≤ k → k ≤ 15 → expr_depth e < limit → Spells text ts k e i j → ((IsItems e → ⊥) → k < loose_at ts j) → parse text ts limit k i ≡ got e j
  unfolding parse
  parse_again zero k e i j least most low p ends = absurd (omega arith)
  parse_again (suc limit) k e i j least most low p ends = level_again limit (parse text ts limit) (parse_again limit) k e i j least most (omega arith) p ends

  -- what is spelled and does not go on is read; an initialiser of items needs no end
  pub expr_again : (depth k : ℕ) (e : Expr) (i j : ℕ) → 2 ≤ k → k ≤ 15 → expr_depth e ≤ depth → Spells text ts k e i j → ((IsItems e → ⊥) → k < loose_at ts j) → expr_read text ts k depth i ≡ got e j
  expr_again depth k e i j least most low p ends = level_again depth (parse text ts depth) (parse_again depth) k e i j least most low p ends

  pub expr_complete : (depth k : ℕ) (e : Expr) (i j : ℕ) → 2 ≤ k → k ≤ 15 → expr_depth e ≤ depth → Spells text ts k e i j → EndsAt text ts (sort_at ts j) → expr_read text ts k depth i ≡ got e j
  expr_complete depth k e i j least most low p ends = let same = ends_loose text ts j ends in expr_again depth k e i j least most low p (λ h. omega (arith, same))
