-- What is read as an expression is one.
use Rattle.std.proofs.Common.{◌≡◌, ◌≢◌, ℕ, zero, suc, ◌+◌, ◌-◌, ◌<◌, ◌≤◌, max, min, Bool, true, false, not, cond, List, [], ◌∷◌, ◌++◌, length, Option, Some, None, refl, sym, ap, subst, ◌∙◌, arith, nat_lt, append_assoc, append-nil, inl, inr}
use Rattle.std.proofs.lemmas.Bool.Decides.{nat_tests}
use Rattle.java_tree.specs.declared.tree.UnOp.{UnOp}
use Rattle.java_tree.specs.declared.tree.BinOp.{BinOp}
use Rattle.java_tree.specs.Plain as t
use Rattle.java_tree.specs.Plain.{TypeExpr, Expr, Exprs}
use Rattle.java_tree.specs.View.{row}
use Rattle.java_lexer.specs.Values.{integer_value, in_u64, is_decimal, char_unit, text_units}
use Rattle.java_grammar.specs.declared.token.Tok.{Tok}
use Rattle.java_grammar.specs.declared.token.Sort.{Sort}
use Rattle.java_grammar.specs.declared.token.Sort.TheVariants as s
use Rattle.java_grammar.specs.declared.token.Keyword.{Keyword}
use Rattle.java_grammar.specs.declared.token.Keyword.TheVariants as word
use Rattle.java_grammar.specs.declared.token.Mark.TheVariants as m
use Rattle.java_grammar.specs.Reads.{sort_at, from_at}
use Rattle.java_grammar.specs.Heights.{type_depth, expr_depth, below_exprs}
use Rattle.java_grammar.specs.Expressions.{level_of, prefix_sort, IsVariable, IsArrayCreation, IsItems, IsSign, MayBeCast, Stands, IsId, word_at, node_of, SpellsType, Spells, AreValues, AreMoreValues, AreSizes, AreItems, AreMoreItems}
use Rattle.java_parse_term.specs.declared.signs.Standing.{Standing}
use Rattle.java_parse_term.specs.declared.terms.Row.{Row}
use Rattle.java_parse_term.specs.declared.terms.Row.TheVariants as r
use Rattle.java_parse_term.specs.Marks.{◌>>=◌, given, is_mark, after_mark}
use Rattle.java_parse_term.specs.Signs.{prefix_of, step_of, is_sign, infix_at, assign_at, level_at}
use Rattle.java_parse_term.specs.Types.{Read, is_primitive, has_brackets, names_class, id_at, brackets, bare_type, read_type}
use Rattle.java_parse_term.specs.Parse.{is_variable, is_creation, is_items, level_in_row, is_cast, may_be_cast, row_end, asks, assigns, opens, opens_size, is_link, member, more, all_in, number, call, named, super_call, super_member, paren, new_object, new_filled, size, more_sizes, sizes, new_array, creation, keyword_operand, operand_by, operand, call_on, field_of, selected, index, link, chain, primary, stepped, postfix, signed, stepping, cast_to, cast, unary, joined, asked, tied, climb, chosen_else, chosen, conditional, assigned, expression, items, level, parse, expr_read, type_read}
use Rattle.java_parse_term.proofs.Steps.{both_true, some_true, is_mark_says, after_mark_says, step, step_if, step_unless, step_either, step_given, step_mark, step_keyword, step_word, step_rise}
use Rattle.java_parse_term.proofs.TypesSound.{is_primitive_says, names_class_says, has_brackets_says, no_brackets_says, brackets_are, FineType, bare_fine, type_fine, rule_fine}
use Rattle.java_parse_term.proofs.TypesComplete.{SpellsType-on}
use Rattle.java_parse_term.proofs.Operators.{prefix_says, step_says, tightest, no_sign, infix_fine, assign_fine, level_least, level_infix, level_asked}

-- ---- tests of trees

pub is_variable_says : (e : Expr) → is_variable e ≡ true → IsVariable e
is_variable_says (t.Name n x) e = tt
is_variable_says (t.Field n a x) e = tt
is_variable_says (t.SuperField n x) e = tt
is_variable_says (t.Index n a b) e = tt
is_variable_says (t.Paren n a) e = is_variable_says a e
is_variable_says _ e = absurd (cc)

pub no_creation : (e : Expr) → is_creation e ≡ false → IsArrayCreation e → ⊥
no_creation (t.NewArray n ty es d) e h = cc
no_creation (t.NewFilled n ty a) e h = cc
no_creation _ e h = h

pub is_items_says : (e : Expr) → is_items e ≡ true → IsItems e
is_items_says (t.Items n es) e = tt
is_items_says _ e = absurd (cc)

module _ (text : List ℕ) (ts : List Tok) where
  pub Spells-up : (k l : ℕ) (e : Expr) (i j : ℕ) → k ≤ l → Spells text ts k e i j → Spells text ts l e i j
  Spells-up k l (t.Number n v d b) i j le h = h
  Spells-up k l (t.Char n c) i j le h = h
  Spells-up k l (t.Text n us) i j le h = h
  Spells-up k l (t.Truth n b) i j le h = h
  Spells-up k l (t.Null n) i j le h = h
  Spells-up k l (t.This n) i j le h = h
  Spells-up k l (t.Name n x) i j le h = h
  Spells-up k l (t.Field n e x) i j le h = h
  Spells-up k l (t.SuperField n x) i j le h = h
  Spells-up k l (t.Index n a b) i j le h = h
  Spells-up k l (t.Call n t.NoExpr x es) i j le h = h
  Spells-up k l (t.Call n (t.AnExpr e) x es) i j le h = h
  Spells-up k l (t.SuperMethod n x es) i j le h = h
  Spells-up k l (t.New n ty es) i j le h = h
  Spells-up k l (t.NewArray n ty es d) i j le h = h
  Spells-up k l (t.NewFilled n ty e) i j le h = h
  Spells-up k l (t.Items n es) i j le (v, low, o, p) = (v, omega arith, o, p)
  Spells-up k l (t.Paren n e) i j le h = h
  Spells-up k l (t.Unary n x e) i j le (v, low, o, p) = (v, omega arith, o, p)
  Spells-up k l (t.Step n up true e) i j le (v, low, o, q, p) = (v, omega arith, o, q, p)
  Spells-up k l (t.Step n up false e) i j le (v, low, q, a, p, o, next) = (v, omega arith, q, a, p, o, next)
  Spells-up k l (t.Cast n ty c e) i j le (v, low, o, a, p, close, from, may, q) = (v, omega arith, o, a, p, close, from, may, q)
  Spells-up k l (t.Binary n x a b) i j le (v, low, c, p, d, o, q) = (v, omega arith, c, p, d, o, q)
  Spells-up k l (t.InstanceOf n e ty) i j le (v, low, a, p, o, none, q) = (v, omega arith, a, p, o, none, q)
  Spells-up k l (t.Cond n a b c) i j le (v, low, d, p, o, f, q, o', q') = (v, omega arith, d, p, o, f, q, o', q')
  Spells-up k l (t.Assign n x a b) i j le (v, low, q, c, p, d, o, w) = (v, omega arith, q, c, p, d, o, w)

  -- ---- rows

  abbrev pub AreIn : Row → Exprs → ℕ → ℕ → Type 0
  AreIn r.Values es i j = AreValues text ts es i j
  AreIn r.Items es i j = AreItems text ts es i j

  abbrev pub AreMoreIn : Row → Exprs → ℕ → ℕ → Type 0
  AreMoreIn r.Values es i j = AreMoreValues text ts es i j
  AreMoreIn r.Items es i j = AreMoreItems text ts es i j

  in_end : (x : Row) (i j : ℕ) → AreMoreIn x t.End i j → AreIn x t.End i j
  in_end r.Values i j h = h
  in_end r.Items i j h = h

  in_first : (x : Row) (e : Expr) (es : Exprs) (i a j : ℕ) → Spells text ts (level_in_row x) e i a → AreMoreIn x es a j → AreIn x (t.Also e es) i j
  in_first r.Values e es i a j p h = (a, p, h)
  in_first r.Items e es i a j p h = (a, p, h)

  in_more : (x : Row) (e : Expr) (es : Exprs) (i a j : ℕ) → Stands text ts (s.Mark m.Comma) i → Spells text ts (level_in_row x) e (i + 1) a → AreMoreIn x es a j
      → AreMoreIn x (t.Also e es) i j
  in_more r.Values e es i a j comma p h = (comma, a, p, h)
  in_more r.Items e es i a j comma p h = (comma, a, p, h)

  pub level_in_least : (x : Row) → 2 ≤ level_in_row x
  level_in_least r.Values = omega arith
  level_in_least r.Items = omega arith

  row_end_says : (x : Row) (i j : ℕ) → row_end text ts x i ≡ Some j → AreMoreIn x t.End i j
  unfolding row_end
  row_end_says r.Values i j e =
      step_given (after_mark ts m.Close i) _ _ j e
      (λ next is e1. let p = after_mark_says ts m.Close i next is in let same : next ≡ j = cc in (p.0, rw (← same) p.1))
      (λ none e1. absurd (cc))
  row_end_says r.Items i j e =
      step_given (after_mark ts m.RightBrace i) _ _ j e
      (λ next is e1. let p = after_mark_says ts m.RightBrace i next is in let same : next ≡ j = cc in inl (p.0, rw (← same) p.1))
      (λ none e1. step_mark ts m.Comma i _ j e1 (λ comma e2. let p = after_mark_says ts m.RightBrace (i + 1) j e2 in inr (comma, p.0, omega (arith, p.1))))

  -- ---- what was read

  -- It spells its tokens, and is as deep as is said, and no deeper than the limit.
  pub record Good (limit k i : ℕ) (g : Read Expr) : Type 0 where
    pub spells : Spells text ts k g.tree i g.next
    pub deep : g.depth ≡ expr_depth g.tree
    pub low : g.depth ≤ limit

  -- The same for what is below the limit. Behind an operand no operator stands that binds it.
  pub record Fine (limit k i : ℕ) (g : Read Expr) : Type 0 where
    pub spells : Spells text ts k g.tree i g.next
    pub deep : g.depth ≡ expr_depth g.tree
    pub low : g.depth < limit
    pub stop : k ≤ 12 → k < level_at ts g.next

  good_up : (limit k l i : ℕ) (g : Read Expr) → k ≤ l → Good limit k i g → Good limit l i g
  good_up limit k l i g le ok = record { spells = Spells-up k l g.tree i g.next le ok.spells; deep = ok.deep; low = ok.low }

  module _ (limit : ℕ) (below : ℕ → ℕ → Option (Read Expr)) (fine : (k i : ℕ) (g : Read Expr) → 2 ≤ k → below k i ≡ Some g → Fine limit k i g) where
    good_of : (k i j d : ℕ) (e : Expr) (g : Read Expr) → Some (record { tree = e; depth = d; next = j }) ≡ Some g → Spells text ts k e i j → d ≡ expr_depth e → d ≤ limit
        → Good limit k i g
    good_of k i j d e g same h deep low =
        let is : record { tree = e; depth = d; next = j } ≡ g = cc in
        subst (Good limit k i) is (record { spells = h; deep = deep; low = low })

    record FineMember (x : Row) (i : ℕ) (g : Read Expr) : Type 0 where
      spells : Spells text ts (level_in_row x) g.tree i g.next
      deep : g.depth ≡ expr_depth g.tree + 1
      low : g.depth ≤ limit

    member_fine : (x : Row) (i : ℕ) (g : Read Expr) → member text ts limit below x i ≡ Some g → FineMember x i g
    unfolding member
    member_fine x i g e =
        step (below (level_in_row x) i) _ g e (λ a read e1.
        step_rise limit a.depth _ g e1 (λ low e2.
        let ok = fine (level_in_row x) i a (level_in_least x) read in
        let same : record { tree = a.tree; depth = a.depth + 1; next = a.next } ≡ g = cc in
        subst (FineMember x i) same (record { spells = ok.spells; deep = ap (λ d. d + 1) ok.deep; low = omega arith })))

    record FineMore (x : Row) (top i : ℕ) (before : List Expr) (g : Read (List Expr)) : Type 0 where
      rest : List Expr
      trees : g.tree ≡ before ++ rest
      spells : AreMoreIn x (row rest) i g.next
      deep : g.depth ≡ max top (below_exprs (row rest))
      low : top ≤ limit → g.depth ≤ limit

    more_fine : (x : Row) (n : ℕ) (before : List Expr) (top i : ℕ) (g : Read (List Expr)) → more text ts limit below x n before top i ≡ Some g → FineMore x top i before g
    unfolding more
    more_fine x zero before top i g e = absurd (cc)
    more_fine x (suc n) before top i g e = by_end (λ done high at e. more_fine x n done high at g e) e
      where
        by_end : ((done : List Expr) (high at : ℕ) → more text ts limit below x n done high at ≡ Some g → FineMore x high at done g)
            → given (row_end text ts x i) (λ next. Some (record { tree = before; depth = top; next = next }))
            (after_mark ts m.Comma i >>= member text ts limit below x >>= (λ a. more text ts limit below x n (before ++ a.tree ∷ []) (max top a.depth) a.next)) ≡ Some g
            → FineMore x top i before g
        by_end again e =
            step_given (row_end text ts x i) _ _ g e
            (λ next is e1.
            let same : record { tree = before; depth = top; next = next } ≡ g = cc in
            subst (FineMore x top i before) same (record { rest = []; trees = sym (append-nil before); spells = row_end_says x i next is; deep = omega arith; low = λ le. le }))
            (λ none e1.
            step (after_mark ts m.Comma i >>= member text ts limit below x) _ g e1 (λ a got e2.
            step_mark ts m.Comma i _ a got (λ comma read.
            let ok = member_fine x (i + 1) a read in
            let r = again (before ++ a.tree ∷ []) (max top a.depth) a.next e2 in
            record {
              rest = a.tree ∷ r.rest;
              trees = r.trees ∙ append_assoc before (a.tree ∷ []) r.rest;
              spells = in_more x a.tree (row r.rest) i a.next g.next comma ok.spells r.spells;
              deep = omega (arith, r.deep, ok.deep);
              low = λ le. r.low (omega (arith, ok.low));
            })))

    record FineAll (x : Row) (i : ℕ) (g : Read (List Expr)) : Type 0 where
      spells : AreIn x (row g.tree) i g.next
      deep : g.depth ≡ below_exprs (row g.tree)
      low : g.depth ≤ limit

    all_fine : (x : Row) (i : ℕ) (g : Read (List Expr)) → all_in text ts limit below x i ≡ Some g → FineAll x i g
    unfolding all_in
    all_fine x i g e =
        step_given (row_end text ts x i) _ _ g e
        (λ next is e1.
        let same : record { tree = []; depth = 0; next = next } ≡ g = cc in
        subst (FineAll x i) same (record { spells = in_end x i next (row_end_says x i next is); deep = refl; low = omega arith }))
        (λ none e1.
        step (member text ts limit below x i) _ g e1 (λ a read e2.
        let ok = member_fine x i a read in
        let r = more_fine x (length ts) (a.tree ∷ []) a.depth a.next g e2 in
        record {
          spells = rw r.trees (in_first x a.tree (row r.rest) i a.next g.next ok.spells r.spells);
          deep = rw r.trees (omega (arith, r.deep, ok.deep));
          low = r.low ok.low;
        }))

    -- ---- operands

    number_fine : (long : Bool) (i : ℕ) (g : Read Expr) → Stands text ts (s.Number long) i → number text ts limit below long i ≡ Some g → Good limit 0 i g
    unfolding number
    number_fine long i g sort e =
        step (in_u64 (integer_value (word_at text ts i))) _ g e (λ v is e1.
        good_of 0 i (i + 1) 0 (t.Number (node_of text ts i (i + 1)) v (is_decimal (word_at text ts i)) long) g e1 (refl, sort, is, refl, refl) refl (omega arith))

    call_fine : (i first : ℕ) (g : Read Expr) → Stands text ts s.Word i → Stands text ts (s.Mark m.Open) (i + 1) → first ≡ i + 2 → call text ts limit below i first ≡ Some g → Good limit 0 i g
    unfolding call
    call_fine i first g word open_is place e =
        step (all_in text ts limit below r.Values first) _ g e (λ es read e1.
        let ok = all_fine r.Values first es read in
        let values : AreValues text ts (row es.tree) (i + 2) es.next = subst (λ q. AreValues text ts (row es.tree) q es.next) place ok.spells in
        good_of 0 i es.next es.depth (t.Call (node_of text ts i es.next) t.NoExpr (id_at ts i) (row es.tree)) g e1 (refl, (word, refl), open_is, values) ok.deep ok.low)

    named_fine : (i : ℕ) (g : Read Expr) → Stands text ts s.Word i → named text ts limit below i ≡ Some g → Good limit 0 i g
    unfolding named
    named_fine i g word e =
        step_given (after_mark ts m.Open (i + 1)) _ _ g e
        (λ first is e1. let p = after_mark_says ts m.Open (i + 1) first is in call_fine i first g word p.0 (omega (arith, p.1)) e1)
        (λ none e1. good_of 0 i (i + 1) 0 (t.Name (node_of text ts i (i + 1)) (id_at ts i)) g e1 (refl, (word, refl), refl) refl (omega arith))

    super_fine : (i : ℕ) (g : Read Expr) → Stands text ts (s.Keyword word.Super) i → super_member text ts limit below i ≡ Some g → Good limit 0 i g
    unfolding super_member super_call
    super_fine i g is e =
        step_mark ts m.Dot (i + 1) _ g e (λ dot e1.
        step_word ts (i + 1 + 1) _ g e1 (λ word e2.
        let two : i + 1 + 1 ≡ i + 2 = omega arith in
        let name : IsId text ts (id_at ts (i + 1 + 1)) (i + 2) = (rw two at word, rw two refl) in
        step_given (after_mark ts m.Open (i + 1 + 1 + 1)) _ _ g e2
        (λ first found e3.
        let p = after_mark_says ts m.Open (i + 1 + 1 + 1) first found in
        step (all_in text ts limit below r.Values first) _ g e3 (λ es read e4.
        let ok = all_fine r.Values first es read in
        let place : first ≡ i + 4 = omega (arith, p.1) in
        let three : i + 1 + 1 + 1 ≡ i + 3 = omega arith in
        let opened : Stands text ts (s.Mark m.Open) (i + 3) = rw three at p.0 in
        let values : AreValues text ts (row es.tree) (i + 4) es.next = subst (λ q. AreValues text ts (row es.tree) q es.next) place ok.spells in
        good_of 0 i es.next es.depth (t.SuperMethod (node_of text ts i es.next) (id_at ts (i + 1 + 1)) (row es.tree)) g e4 (refl, is, dot, name, opened, values) ok.deep ok.low))
        (λ none e3.
        good_of 0 i (i + 1 + 1 + 1) 0 (t.SuperField (node_of text ts i (i + 1 + 1 + 1)) (id_at ts (i + 1 + 1))) g e3 (refl, is, dot, name, omega arith) refl (omega arith))))

    paren_fine : (i : ℕ) (g : Read Expr) → Stands text ts (s.Mark m.Open) i → paren text ts limit below i ≡ Some g → Good limit 0 i g
    unfolding paren
    paren_fine i g is e =
        step (below 14 (i + 1)) _ g e (λ x read e1.
        step_mark ts m.Close x.next _ g e1 (λ close e2.
        step_rise limit x.depth _ g e2 (λ low e3.
        let ok = fine 14 (i + 1) x (omega arith) read in
        good_of 0 i (x.next + 1) (x.depth + 1) (t.Paren (node_of text ts i (x.next + 1)) x.tree) g e3 (refl, is, x.next, ok.spells, close, refl) (ap (λ d. d + 1) ok.deep) (omega arith))))

    object_fine : (i first : ℕ) (ty : Read TypeExpr) (g : Read Expr) → Stands text ts (s.Keyword word.New) i → FineType text ts limit (i + 1) ty
        → Stands text ts (s.Mark m.Open) ty.next → first ≡ ty.next + 1 → new_object text ts limit below i ty first ≡ Some g → Good limit 0 i g
    unfolding new_object
    object_fine i first ty g is type opened place e =
        step_if (names_class ty.tree) _ g e (λ class e1.
        step (all_in text ts limit below r.Values first) _ g e1 (λ es read e2.
        step_rise limit ty.depth _ g e2 (λ low e3.
        let ok = all_fine r.Values first es read in
        let values : AreValues text ts (row es.tree) (ty.next + 1) es.next = subst (λ q. AreValues text ts (row es.tree) q es.next) place ok.spells in
        good_of 0 i es.next (max (ty.depth + 1) es.depth) (t.New (node_of text ts i es.next) ty.tree (row es.tree)) g e3
        (refl, is, names_class_says ty.tree class, ty.next, type.spells, opened, values) (omega (arith, type.deep, ok.deep)) (omega (arith, ok.low)))))

    filled_fine : (i : ℕ) (ty : Read TypeExpr) (g : Read Expr) → Stands text ts (s.Keyword word.New) i → FineType text ts limit (i + 1) ty → new_filled text ts limit below i ty ≡ Some g
        → Good limit 0 i g
    unfolding new_filled
    filled_fine i ty g is type e =
        step_if (has_brackets ty.tree) _ g e (λ array e1.
        step (below 15 ty.next) _ g e1 (λ x read e2.
        step_if (is_items x.tree) _ g e2 (λ row_is e3.
        step_rise limit (max ty.depth x.depth) _ g e3 (λ low e4.
        let ok = fine 15 ty.next x (omega arith) read in
        good_of 0 i x.next (max ty.depth x.depth + 1) (t.NewFilled (node_of text ts i x.next) ty.tree x.tree) g e4
        (refl, is, has_brackets_says ty.tree array, is_items_says x.tree row_is, ty.next, type.spells, ok.spells) (omega (arith, type.deep, ok.deep)) (omega arith)))))

    record FineSize (i : ℕ) (g : Read Expr) : Type 0 where
      begin : Stands text ts (s.Mark m.LeftBracket) i
      place : ℕ
      spells : Spells text ts 14 g.tree (i + 1) place
      end : Stands text ts (s.Mark m.RightBracket) place
      next : g.next ≡ place + 1
      deep : g.depth ≡ expr_depth g.tree + 1
      low : g.depth ≤ limit

    size_fine : (i : ℕ) (g : Read Expr) → size text ts limit below i ≡ Some g → FineSize i g
    unfolding size
    size_fine i g e =
        step_mark ts m.LeftBracket i _ g e (λ opened e1.
        step (below 14 (i + 1)) _ g e1 (λ x read e2.
        step_mark ts m.RightBracket x.next _ g e2 (λ closed e3.
        step_rise limit x.depth _ g e3 (λ low e4.
        let ok = fine 14 (i + 1) x (omega arith) read in
        let same : record { tree = x.tree; depth = x.depth + 1; next = x.next + 1 } ≡ g = cc in
        subst (FineSize i) same (record { begin = opened; place = x.next; spells = ok.spells; end = closed; next = refl; deep = ap (λ d. d + 1) ok.deep; low = omega arith })))))

    record FineSizes (top i : ℕ) (before : List Expr) (g : Read (List Expr)) : Type 0 where
      rest : List Expr
      trees : g.tree ≡ before ++ rest
      spells : AreSizes text ts (row rest) i g.next
      deep : g.depth ≡ max top (below_exprs (row rest))
      low : top ≤ limit → g.depth ≤ limit

    size_first : (i j : ℕ) (a : Read Expr) (es : Exprs) → FineSize i a → AreSizes text ts es a.next j → AreSizes text ts (t.Also a.tree es) i j
    size_first i j a es ok more = (ok.begin, ok.place, ok.spells, ok.end, subst (λ q. AreSizes text ts es q j) ok.next more)

    more_sizes_fine : (n : ℕ) (before : List Expr) (top i : ℕ) (g : Read (List Expr)) → more_sizes text ts limit below n before top i ≡ Some g → FineSizes top i before g
    unfolding more_sizes
    more_sizes_fine zero before top i g e = absurd (cc)
    more_sizes_fine (suc n) before top i g e = by_end (λ done high at e. more_sizes_fine n done high at g e) e
      where
        by_end : ((done : List Expr) (high at : ℕ) → more_sizes text ts limit below n done high at ≡ Some g → FineSizes high at done g)
            → cond (opens_size text ts i) (size text ts limit below i >>= (λ a. more_sizes text ts limit below n (before ++ a.tree ∷ []) (max top a.depth) a.next))
            (Some (record { tree = before; depth = top; next = i })) ≡ Some g → FineSizes top i before g
        by_end again e =
            step_either (opens_size text ts i) _ _ g e
            (λ opened e1.
            step (size text ts limit below i) _ g e1 (λ a read e2.
            let ok = size_fine i a read in
            let r = again (before ++ a.tree ∷ []) (max top a.depth) a.next e2 in
            record {
              rest = a.tree ∷ r.rest;
              trees = r.trees ∙ append_assoc before (a.tree ∷ []) r.rest;
              spells = size_first i g.next a (row r.rest) ok r.spells;
              deep = omega (arith, r.deep, ok.deep);
              low = λ le. r.low (omega (arith, ok.low));
            }))
            (λ none e1.
            let same : record { tree = before; depth = top; next = i } ≡ g = cc in
            subst (FineSizes top i before) same (record { rest = []; trees = sym (append-nil before); spells = refl; deep = omega arith; low = λ le. le }))

    record FineArray (i : ℕ) (g : Read (List Expr)) : Type 0 where
      spells : AreSizes text ts (row g.tree) i g.next
      some : row g.tree ≢ t.End
      deep : g.depth ≡ below_exprs (row g.tree)
      low : g.depth ≤ limit

    sizes_fine : (i : ℕ) (g : Read (List Expr)) → sizes text ts limit below i ≡ Some g → FineArray i g
    unfolding sizes
    sizes_fine i g e =
        step (size text ts limit below i) _ g e (λ a read e1.
        let ok = size_fine i a read in
        let r = more_sizes_fine (length ts) (a.tree ∷ []) a.depth a.next g e1 in
        record {
          spells = rw r.trees (size_first i g.next a (row r.rest) ok r.spells);
          some = rw r.trees (λ e. cc);
          deep = rw r.trees (omega (arith, r.deep, ok.deep));
          low = r.low ok.low;
        })

    array_fine : (i : ℕ) (ty : Read TypeExpr) (g : Read Expr) → Stands text ts (s.Keyword word.New) i → FineType text ts limit (i + 1) ty → new_array text ts limit below i ty ≡ Some g
        → Good limit 0 i g
    unfolding new_array
    array_fine i ty g is type e =
        step_unless (has_brackets ty.tree) _ g e (λ none e1.
        step (sizes text ts limit below ty.next) _ g e1 (λ es read e2.
        step_rise limit ty.depth _ g e2 (λ low e3.
        let ok = sizes_fine ty.next es read in
        let b = brackets ts (length ts) 0 es.next in
        good_of 0 i b.next (max (ty.depth + 1) es.depth) (t.NewArray (node_of text ts i b.next) ty.tree (row es.tree) b.is) g e3
        (refl, is, no_brackets_says ty.tree none, ty.next, type.spells, ok.some, es.next, ok.spells, brackets_are text ts es.next) (omega (arith, type.deep, ok.deep)) (omega (arith, ok.low)))))

    creation_fine : (i : ℕ) (g : Read Expr) → Stands text ts (s.Keyword word.New) i → creation text ts limit below i ≡ Some g → Good limit 0 i g
    unfolding creation
    creation_fine i g is e =
        step (read_type ts limit (i + 1)) _ g e (λ ty read e1.
        let type = type_fine text ts limit (i + 1) ty read in
        step_given (after_mark ts m.Open ty.next) _ _ g e1
        (λ first found e2. let p = after_mark_says ts m.Open ty.next first found in object_fine i first ty g is type p.0 p.1 e2)
        (λ none e2. step_either (is_mark ts m.LeftBrace ty.next) _ _ g e2 (λ brace e3. filled_fine i ty g is type e3) (λ other e3. array_fine i ty g is type e3)))

    keyword_fine : (w : Keyword) (i : ℕ) (g : Read Expr) → Stands text ts (s.Keyword w) i → keyword_operand text ts limit below w i ≡ Some g → Good limit 0 i g
    keyword_fine word.True i g is e = good_of 0 i (i + 1) 0 (t.Truth (node_of text ts i (i + 1)) true) g e (refl, is, refl) refl (omega arith)
    keyword_fine word.False i g is e = good_of 0 i (i + 1) 0 (t.Truth (node_of text ts i (i + 1)) false) g e (refl, is, refl) refl (omega arith)
    keyword_fine word.Null i g is e = good_of 0 i (i + 1) 0 (t.Null (node_of text ts i (i + 1))) g e (refl, is, refl) refl (omega arith)
    keyword_fine word.This i g is e = good_of 0 i (i + 1) 0 (t.This (node_of text ts i (i + 1))) g e (refl, is, refl) refl (omega arith)
    keyword_fine word.Super i g is e = super_fine i g is e
    keyword_fine word.New i g is e = creation_fine i g is e
    keyword_fine _ i g is e = absurd (cc)

    operand_fine : (i : ℕ) (g : Read Expr) → operand text ts limit below i ≡ Some g → Good limit 0 i g
    unfolding operand
    operand_fine i g e = by_sort (sort_at ts i) refl e
      where
        by_sort : (x : Sort) → sort_at ts i ≡ x → operand_by text ts limit below x i ≡ Some g → Good limit 0 i g
        by_sort s.Word is e = named_fine i g is e
        by_sort (s.Number long) is e = number_fine long i g is e
        by_sort s.Char is e = good_of 0 i (i + 1) 0 (t.Char (node_of text ts i (i + 1)) (char_unit (word_at text ts i))) g e (refl, is, refl, refl) refl (omega arith)
        by_sort s.Text is e = good_of 0 i (i + 1) 0 (t.Text (node_of text ts i (i + 1)) (text_units (word_at text ts i))) g e (refl, is, refl, refl) refl (omega arith)
        by_sort (s.Keyword w) is e = keyword_fine w i g is e
        by_sort (s.Mark m.Open) is e = paren_fine i g is e
        by_sort _ is e = absurd (cc)

    -- ---- what goes on with a primary

    selected_fine : (i : ℕ) (left g : Read Expr) → Good limit 0 i left → selected text ts limit below i left ≡ Some g → Good limit 0 i g
    unfolding selected call_on field_of
    selected_fine i left g ok e =
        step_mark ts m.Dot left.next _ g e (λ dot e1.
        step_word ts (left.next + 1) _ g e1 (λ word e2.
        let two : left.next + 1 + 1 ≡ left.next + 2 = omega arith in
        step_given (after_mark ts m.Open (left.next + 1 + 1)) _ _ g e2
        (λ first found e3.
        let p = after_mark_says ts m.Open (left.next + 1 + 1) first found in
        step (all_in text ts limit below r.Values first) _ g e3 (λ es read e4.
        step_rise limit left.depth _ g e4 (λ low e5.
        let all = all_fine r.Values first es read in
        let place : first ≡ left.next + 3 = omega (arith, p.1) in
        let opened : Stands text ts (s.Mark m.Open) (left.next + 2) = rw two at p.0 in
        let values : AreValues text ts (row es.tree) (left.next + 3) es.next = subst (λ q. AreValues text ts (row es.tree) q es.next) place all.spells in
        good_of 0 i es.next (max (left.depth + 1) es.depth) (t.Call (node_of text ts i es.next) (t.AnExpr left.tree) (id_at ts (left.next + 1)) (row es.tree)) g e5
        (refl, left.next, ok.spells, dot, (word, refl), opened, values) (omega (arith, ok.deep, all.deep)) (omega (arith, all.low)))))
        (λ none e3.
        step_rise limit left.depth _ g e3 (λ low e4.
        good_of 0 i (left.next + 1 + 1) (left.depth + 1) (t.Field (node_of text ts i (left.next + 1 + 1)) left.tree (id_at ts (left.next + 1))) g e4
        (refl, left.next, ok.spells, dot, (word, refl), two) (ap (λ d. d + 1) ok.deep) (omega arith)))))

    index_fine : (i : ℕ) (left g : Read Expr) → Good limit 0 i left → index text ts limit below i left ≡ Some g → Good limit 0 i g
    unfolding index
    index_fine i left g ok e =
        step_unless (is_creation left.tree) _ g e (λ apart e0.
        step_mark ts m.LeftBracket left.next _ g e0 (λ opened e1.
        step (below 14 (left.next + 1)) _ g e1 (λ x read e2.
        step_mark ts m.RightBracket x.next _ g e2 (λ closed e3.
        step_rise limit (max left.depth x.depth) _ g e3 (λ low e4.
        let inner = fine 14 (left.next + 1) x (omega arith) read in
        good_of 0 i (x.next + 1) (max left.depth x.depth + 1) (t.Index (node_of text ts i (x.next + 1)) left.tree x.tree) g e4
        (refl, no_creation left.tree apart, left.next, ok.spells, opened, x.next, inner.spells, closed, refl) (omega (arith, ok.deep, inner.deep)) (omega arith))))))

    link_fine : (i : ℕ) (left g : Read Expr) → Good limit 0 i left → link text ts limit below i left ≡ Some g → Good limit 0 i g
    unfolding link
    link_fine i left g ok e =
        step_either (is_mark ts m.Dot left.next) _ _ g e (λ dot e1. selected_fine i left g ok e1) (λ other e1. index_fine i left g ok e1)

    chain_fine : (n i : ℕ) (left g : Read Expr) → Good limit 0 i left → chain text ts limit below n i left ≡ Some g → Good limit 0 i g
    unfolding chain
    chain_fine zero i left g ok e = absurd (cc)
    chain_fine (suc n) i left g ok e = by_test (λ up. chain_fine n i up g) e
      where
        by_test : ((up : Read Expr) → Good limit 0 i up → chain text ts limit below n i up ≡ Some g → Good limit 0 i g)
            → cond (is_link text ts left.next) (link text ts limit below i left >>= chain text ts limit below n i) (Some left) ≡ Some g → Good limit 0 i g
        by_test again e =
            step_either (is_link text ts left.next) _ _ g e
            (λ links e1. step (link text ts limit below i left) _ g e1 (λ up read e2. again up (link_fine i left up ok read) e2))
            (λ none e1. let is : left ≡ g = cc in subst (Good limit 0 i) is ok)

    primary_fine : (i : ℕ) (g : Read Expr) → primary text ts limit below i ≡ Some g → Good limit 0 i g
    unfolding primary
    primary_fine i g e = step (operand text ts limit below i) _ g e (λ left read e1. chain_fine (limit + 1) i left g (operand_fine i left read) e1)

    postfix_fine : (i : ℕ) (g : Read Expr) → postfix text ts limit below i ≡ Some g → Good limit 1 i g
    unfolding postfix stepped
    postfix_fine i g e =
        step (primary text ts limit below i) _ g e (λ left read e1.
        let ok = primary_fine i left read in
        step_given (step_of (sort_at ts left.next)) _ _ g e1
        (λ up is e2.
        step_if (is_variable left.tree) _ g e2 (λ variable e3.
        step_rise limit left.depth _ g e3 (λ low e4.
        good_of 1 i (left.next + 1) (left.depth + 1) (t.Step (node_of text ts i (left.next + 1)) up false left.tree) g e4
        (refl, omega arith, is_variable_says left.tree variable, left.next, ok.spells, step_says _ up is, refl) (ap (λ d. d + 1) ok.deep) (omega arith))))
        (λ none e2. let is : left ≡ g = cc in subst (Good limit 1 i) is (good_up limit 0 1 i left (omega arith) ok)))

    -- ---- what stands before an operand

    signed_fine : (i : ℕ) (x : UnOp) (g : Read Expr) → Stands text ts (prefix_sort x) i → signed text ts limit below i x ≡ Some g → Good limit 2 i g
    unfolding signed
    signed_fine i x g is e =
        step (below 2 (i + 1)) _ g e (λ a read e1.
        step_rise limit a.depth _ g e1 (λ low e2.
        let ok = fine 2 (i + 1) a (omega arith) read in
        good_of 2 i a.next (a.depth + 1) (t.Unary (node_of text ts i a.next) x a.tree) g e2 (refl, omega arith, is, ok.spells) (ap (λ d. d + 1) ok.deep) (omega arith)))

    stepping_fine : (i : ℕ) (up : Bool) (g : Read Expr) → Stands text ts (s.Step up) i → stepping text ts limit below i up ≡ Some g → Good limit 2 i g
    unfolding stepping
    stepping_fine i up g is e =
        step (below 2 (i + 1)) _ g e (λ a read e1.
        step_if (is_variable a.tree) _ g e1 (λ variable e2.
        step_rise limit a.depth _ g e2 (λ low e3.
        let ok = fine 2 (i + 1) a (omega arith) read in
        good_of 2 i a.next (a.depth + 1) (t.Step (node_of text ts i a.next) up true a.tree) g e3 (refl, omega arith, is, is_variable_says a.tree variable, ok.spells)
        (ap (λ d. d + 1) ok.deep) (omega arith))))

    may_says : (ty : TypeExpr) (i : ℕ) → may_be_cast text ts ty i ≡ true → MayBeCast text ts ty i
    may_says ty i e = some_true (is_primitive ty) (not (is_sign (sort_at ts i))) e (λ prim. inl (is_primitive_says ty prim)) (λ none. inr (by_sign (is_sign (sort_at ts i)) refl none))
      where
        by_sign : (b : Bool) → is_sign (sort_at ts i) ≡ b → not b ≡ true → IsSign text ts (sort_at ts i) → ⊥
        by_sign true is e h = cc
        by_sign false is e h = no_sign text ts (sort_at ts i) is h

    cast_fine : (i : ℕ) (g : Read Expr) → Stands text ts (s.Mark m.Open) i → cast text ts limit below i ≡ Some g → Good limit 2 i g
    unfolding cast cast_to
    cast_fine i g is e =
        step (read_type ts limit (i + 1)) _ g e (λ ty read e1.
        let type = type_fine text ts limit (i + 1) ty read in
        step_mark ts m.Close ty.next _ g e1 (λ close e2.
        step_if (may_be_cast text ts ty.tree (ty.next + 1)) _ g e2 (λ may e3.
        step (below 2 (ty.next + 1)) _ g e3 (λ a found e4.
        step_rise limit (max ty.depth a.depth) _ g e4 (λ low e5.
        let ok = fine 2 (ty.next + 1) a (omega arith) found in
        good_of 2 i a.next (max ty.depth a.depth + 1) (t.Cast (node_of text ts i a.next) ty.tree (from_at ts ty.next) a.tree) g e5
        (refl, omega arith, is, ty.next, type.spells, close, refl, may_says ty.tree (ty.next + 1) may, ok.spells) (omega (arith, type.deep, ok.deep)) (omega arith))))))

    cast_opens : (i : ℕ) → is_cast text ts i ≡ true → Stands text ts (s.Mark m.Open) i
    unfolding is_cast
    cast_opens i e = both_true (is_mark ts m.Open i) _ e (λ a b. is_mark_says ts m.Open i a)

    unary_fine : (i : ℕ) (g : Read Expr) → unary text ts limit below i ≡ Some g → Good limit 2 i g
    unfolding unary
    unary_fine i g e =
        step_given (prefix_of (sort_at ts i)) _ _ g e
        (λ x is e1. signed_fine i x g (prefix_says _ x is) e1)
        (λ none e1. step_given (step_of (sort_at ts i)) _ _ g e1
        (λ up is e2. stepping_fine i up g (step_says _ up is) e2)
        (λ none e2. step_either (is_cast text ts i) _ _ g e2
        (λ casts e3. cast_fine i g (cast_opens i casts) e3)
        (λ other e3. good_up limit 1 2 i g (omega arith) (postfix_fine i g e3))))

    -- ---- infix operators

    -- a tree of the looseness c, behind which no operator binds it tighter
    record Climbed (k c i : ℕ) (g : Read Expr) : Type 0 where
      good : Good limit c i g
      least : 2 ≤ c
      within : c ≤ k
      behind : c ≤ level_at ts g.next

    record Next (k i : ℕ) (g : Read Expr) : Type 0 where
      looseness : ℕ
      is : Climbed k looseness i g

    joined_fine : (k c i : ℕ) (left g : Read Expr) (x : Standing BinOp) → Climbed k c i left → infix_at ts left.next ≡ Some x → level_at ts left.next ≤ k → joined text ts limit below i left x ≡ Some g
        → Next k i g
    unfolding joined
    joined_fine k c i left g x ok found le e =
        step (below (level_of x.is - 1) x.next) _ g e (λ right read e1.
        step_rise limit (max left.depth right.depth) _ g e1 (λ low e2.
        let tight = tightest x.is in
        let at_level = level_infix text ts left.next x found in
        let other = fine (level_of x.is - 1) x.next right (omega (arith, tight.0)) read in
        let stop = other.stop (omega (arith, tight.1)) in
        let spells : Spells text ts (level_of x.is) left.tree i left.next = Spells-up c (level_of x.is) left.tree i left.next (omega (arith, ok.behind, at_level)) ok.good.spells in
        let good = good_of (level_of x.is) i right.next (max left.depth right.depth + 1) (t.Binary (node_of text ts i right.next) x.is left.tree right.tree) g e2
        (refl, omega arith, left.next, spells, x.next, infix_fine text ts left.next x found, other.spells) (omega (arith, ok.good.deep, other.deep)) (omega arith) in
        let same : right.next ≡ g.next = ap (λ (o : Option (Read Expr)). given o (λ x. x.next) 0) e2 in
        record { looseness = level_of x.is; is = record { good = good; least = omega (arith, tight.0); within = omega (arith, at_level); behind = rw (← same) (omega (arith, stop, tight.0)) } }))

    asked_fine : (k c i : ℕ) (left g : Read Expr) → Climbed k c i left → infix_at ts left.next ≡ None → level_at ts left.next ≤ k → asked text ts limit below i left ≡ Some g → Next k i g
    unfolding asked
    asked_fine k c i left g ok none le e =
        step_keyword ts word.InstanceOf left.next _ g e (λ is e1.
        step (bare_type ts (left.next + 1)) _ g e1 (λ ty read e2.
        step_unless (nat_lt (level_at ts ty.next) 6) _ g e2 (λ stop e3.
        step_rise limit (max left.depth ty.depth) _ g e3 (λ low e4.
        let at_level = level_asked text ts left.next none is in
        let type = bare_fine text ts (left.next + 1) ty read in
        let behind : 6 ≤ level_at ts ty.next = grind (arith, nat_tests) in
        let spells : Spells text ts 6 left.tree i left.next = Spells-up c 6 left.tree i left.next (omega (arith, ok.behind, at_level)) ok.good.spells in
        let good = good_of 6 i ty.next (max left.depth ty.depth + 1) (t.InstanceOf (node_of text ts i ty.next) left.tree ty.tree) g e4
        (refl, omega arith, left.next, spells, is, type.1, type.0) (omega (arith, ok.good.deep, type.2)) (omega arith) in
        let same : ty.next ≡ g.next = ap (λ (o : Option (Read Expr)). given o (λ x. x.next) 0) e4 in
        record { looseness = 6; is = record { good = good; least = omega arith; within = omega (arith, at_level); behind = rw (← same) behind } }))))

    tied_fine : (k c i : ℕ) (left g : Read Expr) → Climbed k c i left → level_at ts left.next ≤ k → tied text ts limit below i left ≡ Some g → Next k i g
    unfolding tied
    tied_fine k c i left g ok le e =
        step_given (infix_at ts left.next) _ _ g e (λ x found e1. joined_fine k c i left g x ok found le e1) (λ none e1. asked_fine k c i left g ok none le e1)

    record Stopped (k i : ℕ) (g : Read Expr) : Type 0 where
      good : Good limit k i g
      stop : k < level_at ts g.next

    climb_fine : (n k c i : ℕ) (left g : Read Expr) → Climbed k c i left → climb text ts limit below k n i left ≡ Some g → Stopped k i g
    unfolding climb
    climb_fine zero k c i left g ok e = absurd (cc)
    climb_fine (suc n) k c i left g ok e = by_test (λ d up. climb_fine n k d i up g) e
      where
        by_test : ((d : ℕ) (up : Read Expr) → Climbed k d i up → climb text ts limit below k n i up ≡ Some g → Stopped k i g)
            → cond (nat_lt k (level_at ts left.next)) (Some left) (tied text ts limit below i left >>= climb text ts limit below k n i) ≡ Some g → Stopped k i g
        by_test again e =
            step_either (nat_lt k (level_at ts left.next)) _ _ g e
            (λ loose e1.
            let is : left ≡ g = cc in
            let stop : k < level_at ts left.next = grind (arith, nat_tests) in
            subst (Stopped k i) is (record { good = good_up limit c k i left ok.within ok.good; stop = stop }))
            (λ tight e1.
            let le : level_at ts left.next ≤ k = grind (arith, nat_tests) in
            step (tied text ts limit below i left) _ g e1 (λ up read e2.
            let r = tied_fine k c i left up ok le read in
            again r.looseness up r.is e2))

    -- ---- conditionals, assignments and items

    chosen_fine : (k i first : ℕ) (test g : Read Expr) → 13 ≤ k → Good limit 12 i test → Stands text ts (s.Mark m.Question) test.next → first ≡ test.next + 1
        → chosen text ts limit below i test first ≡ Some g → Good limit k i g
    unfolding chosen chosen_else
    chosen_fine k i first test g loose ok is place e =
        step (below 14 first) _ g e (λ a read e1.
        step_mark ts m.Colon a.next _ g e1 (λ colon e2.
        step (below 13 (a.next + 1)) _ g e2 (λ b found e3.
        step_rise limit (max test.depth (max a.depth b.depth)) _ g e3 (λ low e4.
        let one = fine 14 first a (omega arith) read in
        let two = fine 13 (a.next + 1) b (omega arith) found in
        let spells : Spells text ts 14 a.tree (test.next + 1) a.next = subst (λ q. Spells text ts 14 a.tree q a.next) place one.spells in
        good_of k i b.next (max test.depth (max a.depth b.depth) + 1) (t.Cond (node_of text ts i b.next) test.tree a.tree b.tree) g e4
        (refl, loose, test.next, ok.spells, is, a.next, spells, colon, two.spells) (omega (arith, ok.deep, one.deep, two.deep)) (omega arith)))))

    asks_says : (k i j : ℕ) → asks text ts k i ≡ Some j → (13 ≤ k) × Stands text ts (s.Mark m.Question) i × (j ≡ i + 1)
    unfolding asks
    asks_says k i j e = step_if (nat_lt 12 k) _ j e (λ loose e1. let p = after_mark_says ts m.Question i j e1 in (grind (arith, nat_tests), p.0, p.1))

    conditional_fine : (k i : ℕ) (left g : Read Expr) → 2 ≤ k → Good limit 2 i left → conditional text ts limit below k i left ≡ Some g → Good limit k i g × (k ≤ 12 → k < level_at ts g.next)
    unfolding conditional
    conditional_fine k i left g least ok e =
        step (climb text ts limit below (min k 12) (limit + 1) i left) _ g e (λ test read e1.
        let first : Climbed (min k 12) 2 i left = record { good = ok; least = omega arith; within = omega arith; behind = omega (arith, level_least text ts left.next) } in
        let r = climb_fine (limit + 1) (min k 12) 2 i left test first read in
        step_given (asks text ts k test.next) _ _ g e1
        (λ at is e2.
        let p = asks_says k test.next at is in
        (chosen_fine k i at test g p.0 (good_up limit (min k 12) 12 i test (omega arith) r.good) p.1 p.2 e2, λ le. absurd (omega (arith, p.0))))
        (λ none e2.
        let is : test ≡ g = cc in
        (subst (Good limit k i) is (good_up limit (min k 12) k i test (omega arith) r.good), λ le. let stop : min k 12 < level_at ts g.next = rw (← is) r.stop in omega arith)))

    assigns_says : (k : ℕ) (left : Read Expr) (x : Standing (Option BinOp)) → assigns text ts k left ≡ Some x → (14 ≤ k) × IsVariable left.tree × (assign_at ts left.next ≡ Some x)
    unfolding assigns
    assigns_says k left x e =
        step_if (nat_lt 13 k) _ x e (λ loose e1.
        step (assign_at ts left.next) _ x e1 (λ y found e2.
        step_if (is_variable left.tree) _ x e2 (λ variable e3.
        let same : y ≡ x = cc in
        (grind (arith, nat_tests), is_variable_says left.tree variable, found ∙ ap Some same))))

    assigned_fine : (k i : ℕ) (left g : Read Expr) (x : Standing (Option BinOp)) → Good limit 2 i left → assigns text ts k left ≡ Some x → assigned text ts limit below i left x ≡ Some g → Good limit k i g
    unfolding assigned
    assigned_fine k i left g x ok found e =
        step (below 14 x.next) _ g e (λ right read e1.
        step_rise limit (max left.depth right.depth) _ g e1 (λ low e2.
        let p = assigns_says k left x found in
        let other = fine 14 x.next right (omega arith) read in
        good_of k i right.next (max left.depth right.depth + 1) (t.Assign (node_of text ts i right.next) x.is left.tree right.tree) g e2
        (refl, p.0, p.1, left.next, ok.spells, x.next, assign_fine text ts left.next x p.2, other.spells) (omega (arith, ok.deep, other.deep)) (omega arith)))

    expression_fine : (k i : ℕ) (g : Read Expr) → 2 ≤ k → expression text ts limit below k i ≡ Some g → Good limit k i g × (k ≤ 12 → k < level_at ts g.next)
    unfolding expression
    expression_fine k i g least e =
        step (unary text ts limit below i) _ g e (λ left read e1.
        let ok = unary_fine i left read in
        step_given (assigns text ts k left) _ _ g e1
        (λ x found e2. (assigned_fine k i left g x ok found e2, λ le. absurd (omega (arith, (assigns_says k left x found).0))))
        (λ none e2. conditional_fine k i left g least ok e2))

    items_fine : (k i : ℕ) (g : Read Expr) (first : ℕ) → 15 ≤ k → Stands text ts (s.Mark m.LeftBrace) i → first ≡ i + 1 → items text ts limit below i first ≡ Some g → Good limit k i g
    unfolding items
    items_fine k i g first loose is place e =
        step (all_in text ts limit below r.Items first) _ g e (λ es read e1.
        let ok = all_fine r.Items first es read in
        let inside : AreItems text ts (row es.tree) (i + 1) es.next = subst (λ q. AreItems text ts (row es.tree) q es.next) place ok.spells in
        good_of k i es.next es.depth (t.Items (node_of text ts i es.next) (row es.tree)) g e1 (refl, loose, is, inside) ok.deep ok.low)

    opens_says : (k i j : ℕ) → opens text ts k i ≡ Some j → (15 ≤ k) × Stands text ts (s.Mark m.LeftBrace) i × (j ≡ i + 1)
    unfolding opens
    opens_says k i j e = step_if (nat_lt 14 k) _ j e (λ loose e1. let p = after_mark_says ts m.LeftBrace i j e1 in (grind (arith, nat_tests), p.0, p.1))

    pub level_fine : (k i : ℕ) (g : Read Expr) → 2 ≤ k → level text ts limit below k i ≡ Some g → Good limit k i g × (k ≤ 12 → k < level_at ts g.next)
    unfolding level
    level_fine k i g least e =
        step_given (opens text ts k i) _ _ g e
        (λ first is e1. let p = opens_says k i first is in (items_fine k i g first p.0 p.1 p.2 e1, λ le. absurd (omega (arith, p.0))))
        (λ none e1. expression_fine k i g least e1)

  pub parse_fine : (limit k i : ℕ) (g : Read Expr) → 2 ≤ k → parse text ts limit k i ≡ Some g → Fine limit k i g
  unfolding parse
  parse_fine zero k i g least e = absurd (cc)
  parse_fine (suc limit) k i g least e =
      let r = level_fine limit (parse text ts limit) (parse_fine limit) k i g least e in
      record { spells = r.0.spells; deep = r.0.deep; low = omega (arith, r.0.low); stop = r.1 }

  pub expr_sound : (k depth i : ℕ) (g : Read Expr) → 2 ≤ k → expr_read text ts k depth i ≡ Some g
      → Spells text ts k g.tree i g.next × (expr_depth g.tree ≡ g.depth) × (g.depth ≤ depth)
  expr_sound k depth i g least e =
      let r = level_fine depth (parse text ts depth) (parse_fine depth) k i g least e in
      (r.0.spells, sym r.0.deep, r.0.low)

  pub type_sound : (depth i : ℕ) (g : Read TypeExpr) → type_read ts depth i ≡ Some g → SpellsType text ts g.tree i g.next × (type_depth g.tree ≡ g.depth) × (g.depth ≤ depth) × (i < g.next)
  type_sound depth i g e =
      let ok = rule_fine text ts depth (read_type ts depth) (type_fine text ts depth) i g e in
      (ok.spells, sym ok.deep, omega (arith, ok.low), SpellsType-on text ts g.tree i g.next ok.spells)
