-- What is a type is read.
use Rattle.std.proofs.Common.{◌≡◌, ◌≢◌, ℕ, zero, suc, ◌+◌, ◌<◌, ◌≤◌, max, false, List, [], ◌∷◌, ◌++◌, length, Option, Some, None, refl, sym, ap, ◌∙◌, arith, append_assoc, append-nil, add-zero, zero-add, ◌⊎◌, inl, inr}
use Rattle.java_tree.specs.declared.tree.Name.{Name}
use Rattle.java_tree.specs.declared.tree.Head.{Head}
use Rattle.java_tree.specs.declared.tree.Head.TheVariants as head
use Rattle.java_tree.specs.declared.tree.Primitive.{Primitive}
use Rattle.java_tree.specs.declared.tree.Primitive.TheVariants as prim
use Rattle.java_tree.specs.declared.tree.BinOp.TheVariants as op
use Rattle.java_tree.specs.Plain as t
use Rattle.java_tree.specs.Plain.{TypeExpr, TypeExprs}
use Rattle.java_tree.specs.View.{types}
use Rattle.java_grammar.specs.declared.token.Tok.{Tok}
use Rattle.java_grammar.specs.declared.token.Sort.{Sort}
use Rattle.java_grammar.specs.declared.token.Sort.TheVariants as s
use Rattle.java_grammar.specs.declared.token.Mark.TheVariants as m
use Rattle.java_grammar.specs.Reads.{sort_at, name_at}
use Rattle.java_grammar.specs.Heights.{type_depth, below_types}
use Rattle.java_grammar.specs.Expressions.{word_of, IsPrimitive, HasNoArguments, GoesOn, Stands, AreBrackets, IsPath, IsHead, SpellsType, AreArguments, AreMoreTypes}
use Rattle.java_parse_term.specs.Marks.{◌>>=◌, after_mark, after_infix}
use Rattle.java_parse_term.specs.Signs.{standing}
use Rattle.java_parse_term.specs.Types.{Read, primitive_of, is_path, is_primitive, id_at, path, type_head, pair_end, brackets, written, no_types, bare_type, first_argument, argument, more_types, arguments, type_rule, read_type}
use Rattle.java_parse_term.proofs.TokLemmas.{nothing_past}
use Rattle.java_parse_term.proofs.Steps.{not_true, after_mark_says, after_mark_has, after_mark_not, after_infix_has, after_infix_not, after_word_has, dotted_has, dotted_not, rise_has}
use Rattle.java_parse_term.proofs.TypesSound.{is_primitive_says}

pub primitive_has : (p : Primitive) → primitive_of (s.Keyword (word_of p)) ≡ Some p
primitive_has prim.Int = refl
primitive_has prim.Long = refl
primitive_has prim.Char = refl
primitive_has prim.Boolean = refl

pub name_is : (x : Name) (n : ℕ) → x.0 ≡ n → x ≡ record { 0 = n }
name_is x n e = let made : ℕ → Name = λ n. record { 0 = n } in ap made e

-- the list of types
abbrev pub listed : TypeExprs → List TypeExpr
listed t.NoTypes = []
listed (t.AndType x xs) = x ∷ listed xs

pub types-listed : (xs : TypeExprs) → types (listed xs) ≡ xs
types-listed t.NoTypes = refl
types-listed (t.AndType x xs) = ap (t.AndType x) (types-listed xs)

pub within : (ts : List Tok) (i : ℕ) (x : Sort) → sort_at ts i ≡ x → x ≢ s.End → i < length ts
within ts i x is other = by_place (grind arith)
  where
    by_place : (i < length ts) ⊎ (length ts ≤ i) → i < length ts
    by_place (inl h) = h
    by_place (inr h) = absurd (other (sym is ∙ nothing_past ts i h))

-- a type may end before such a place
pub record Closed (ts : List Tok) (j : ℕ) : Type 0 where
  pub no_dot : sort_at ts j ≢ s.Mark m.Dot
  pub no_less : sort_at ts j ≢ s.Infix op.Less
  pub no_pair : pair_end ts j ≡ None

no_pair_at : (ts : List Tok) (j : ℕ) → sort_at ts j ≢ s.Mark m.LeftBracket → pair_end ts j ≡ None
unfolding pair_end
no_pair_at ts j other = rw (after_mark_not ts m.LeftBracket j other) refl

pub closed_at : (ts : List Tok) (j : ℕ) (x : Sort) → sort_at ts j ≡ x → x ≢ s.Mark m.Dot → x ≢ s.Infix op.Less → x ≢ s.Mark m.LeftBracket → Closed ts j
closed_at ts j x is a b c = record { no_dot = λ e. a (sym is ∙ e); no_less = λ e. b (sym is ∙ e); no_pair = no_pair_at ts j (λ e. c (sym is ∙ e)) }

pub no_second : (ts : List Tok) (j : ℕ) → sort_at ts (j + 1) ≢ s.Mark m.RightBracket → pair_end ts j ≡ None
unfolding pair_end
no_second ts j other = by_first (after_mark ts m.LeftBracket j) refl
  where
    by_first : (o : Option ℕ) → after_mark ts m.LeftBracket j ≡ o → (after_mark ts m.LeftBracket j >>= after_mark ts m.RightBracket) ≡ None
    by_first None e = rw e refl
    by_first (Some k) e = let p = after_mark_says ts m.LeftBracket j k e in let none : after_mark ts m.RightBracket k ≡ None = after_mark_not ts m.RightBracket k (λ x. other (rw (← p.1) x)) in rw e none

pub goes_on_not : (text : List ℕ) (ts : List Tok) (j : ℕ) → (GoesOn text ts (sort_at ts j) → ⊥) → Closed ts j
goes_on_not text ts j ends =
    closed_at ts j (sort_at ts j) refl (λ e. ends (rw e tt)) (λ e. ends (rw e tt)) (λ e. ends (rw e tt))

module _ (text : List ℕ) (ts : List Tok) where
  abbrev pub got_type : TypeExpr → ℕ → Option (Read TypeExpr)
  got_type x j = Some (record { tree = x; depth = type_depth x; next = j })

  pub AreBrackets-on : (d i j : ℕ) → AreBrackets text ts d i j → i ≤ j
  AreBrackets-on zero i j h = omega arith
  AreBrackets-on (suc d) i j (a, b, h) = let on = AreBrackets-on d (i + 2) j h in omega arith

  pub IsPath-on : (xs : List Name) (i j : ℕ) → IsPath text ts xs i j → i < j
  IsPath-on [] i j h = absurd h
  IsPath-on (x ∷ []) i j (id, h) = omega arith
  IsPath-on (x ∷ y ∷ xs) i j (id, dot, h) = let on = IsPath-on (y ∷ xs) (i + 2) j h in omega arith

  pub IsHead-on : (h : Head) (i j : ℕ) → IsHead text ts h i j → i < j
  IsHead-on (head.Prim p) i j (a, b) = omega arith
  IsHead-on (head.Path xs) i j h = IsPath-on xs i j h

  mutual
    pub SpellsType-on : (x : TypeExpr) (i j : ℕ) → SpellsType text ts x i j → i < j
    SpellsType-on (t.Written n h span args d) i j (node, a, p, q, b, r, w) =
        let on = IsHead-on h i a p in
        let on' = AreArguments-on h args a b r in
        let on'' = AreBrackets-on d b j w in
        omega arith

    pub AreArguments-on : (h : Head) (args : TypeExprs) (i j : ℕ) → AreArguments text ts h args i j → i ≤ j
    AreArguments-on h t.NoTypes i j e = omega arith
    AreArguments-on (head.Prim p) (t.AndType x rest) i j e = absurd e
    AreArguments-on (head.Path xs) (t.AndType x rest) i j (less, a, p, no_prim, more) =
        let on = SpellsType-on x (i + 1) a p in
        let on' = AreMoreTypes-on rest a j more in
        omega arith

    pub AreMoreTypes-on : (xs : TypeExprs) (i j : ℕ) → AreMoreTypes text ts xs i j → i < j
    AreMoreTypes-on t.NoTypes i j (a, b) = omega arith
    AreMoreTypes-on (t.AndType x rest) i j (comma, a, p, no_prim, more) =
        let on = SpellsType-on x (i + 1) a p in
        let on' = AreMoreTypes-on rest a j more in
        omega arith

  -- what stands where brackets begin, by what stands behind them
  pub before_brackets : (x : Sort) (d i j : ℕ) → AreBrackets text ts d i j → x ≢ s.Mark m.LeftBracket → sort_at ts j ≢ x → sort_at ts i ≢ x
  before_brackets x zero i j h other apart e = apart (rw h e)
  before_brackets x (suc d) i j (a, b, h) other apart e = other (sym e ∙ a)

  path_again : (n : ℕ) (before xs : List Name) (i j : ℕ) → IsPath text ts xs i j → sort_at ts j ≢ s.Mark m.Dot → length ts ≤ n + i
      → path ts n before i ≡ Some (record { tree = before ++ xs; depth = 0; next = j })
  unfolding path
  path_again zero before [] i j h ends turns = absurd h
  path_again zero before (x ∷ []) i j ((is, name), next) ends turns = absurd (omega (arith, within ts i s.Word is (λ e. cc)))
  path_again zero before (x ∷ y ∷ xs) i j ((is, name), dot, h) ends turns = absurd (omega (arith, within ts i s.Word is (λ e. cc)))
  path_again (suc n) before [] i j h ends turns = absurd h
  path_again (suc n) before (x ∷ []) i j ((is, name), next) ends turns =
      rw (after_word_has ts i is, dotted_not ts (i + 1) (rw next at ends), next, name_is x (name_at ts i) name) refl
  path_again (suc n) before (x ∷ y ∷ xs) i j ((is, name), dot, h) ends turns =
      let second = path_word (y ∷ xs) (i + 2) j h in
      let two : i + 1 + 1 ≡ i + 2 = omega arith in
      let read : path ts n (before ++ x ∷ []) (i + 2) ≡ Some (record { tree = (before ++ x ∷ []) ++ (y ∷ xs); depth = 0; next = j }) =
      path_again n (before ++ x ∷ []) (y ∷ xs) (i + 2) j h ends (omega arith) in
      let first : path ts n (before ++ id_at ts i ∷ []) (i + 1 + 1) ≡ path ts n (before ++ x ∷ []) (i + 2) =
      rw (two, name_is x (name_at ts i) name) refl in
      rw (after_word_has ts i is, dotted_has ts (i + 1) dot (rw two second))
      (first ∙ read ∙ ap (λ xs. Some (record { tree = xs; depth = 0; next = j })) (append_assoc before (x ∷ []) (y ∷ xs)))
    where
      path_word : (xs : List Name) (i j : ℕ) → IsPath text ts xs i j → sort_at ts i ≡ s.Word
      path_word [] i j h = absurd h
      path_word (x ∷ []) i j (id, h) = id.0
      path_word (x ∷ y ∷ xs) i j (id, dot, h) = id.0

  pub head_again : (h : Head) (i j : ℕ) → IsHead text ts h i j → sort_at ts j ≢ s.Mark m.Dot → type_head ts i ≡ Some (record { tree = h; depth = 0; next = j })
  unfolding type_head
  head_again (head.Prim p) i j (is, next) ends = rw (is, primitive_has p, next) refl
  head_again (head.Path xs) i j h ends =
      rw (first xs h, path_again (length ts) [] xs i j h ends (omega arith)) refl
    where
      first : (xs : List Name) → IsPath text ts xs i j → sort_at ts i ≡ s.Word
      first [] h = absurd h
      first (x ∷ []) (id, h) = id.0
      first (x ∷ y ∷ xs) (id, dot, h) = id.0

  pair_has : (i : ℕ) → Stands text ts (s.Mark m.LeftBracket) i → Stands text ts (s.Mark m.RightBracket) (i + 1) → pair_end ts i ≡ Some (i + 2)
  unfolding pair_end
  pair_has i a b = let two : i + 1 + 1 ≡ i + 2 = omega arith in rw (after_mark_has ts m.LeftBracket i a) (after_mark_has ts m.RightBracket (i + 1) b ∙ ap Some two)

  pub brackets_again : (d n k i j : ℕ) → AreBrackets text ts d i j → pair_end ts j ≡ None → length ts ≤ n + i → brackets ts n k i ≡ standing (k + d) j
  unfolding brackets
  brackets_again zero zero k i j h none turns = rw (h, add-zero k) refl
  brackets_again zero (suc n) k i j h none turns = let here : pair_end ts i ≡ None = rw (← h) none in rw (here, h, add-zero k) refl
  brackets_again (suc d) zero k i j (a, b, h) none turns = absurd (omega (arith, within ts i (s.Mark m.LeftBracket) a (λ e. cc)))
  brackets_again (suc d) (suc n) k i j (a, b, h) none turns =
      let more : k + 1 + d ≡ k + suc d = omega arith in
      rw (pair_has i a b) (brackets_again d n (k + 1) (i + 2) j h none (omega arith) ∙ ap (λ k. standing k j) more)

  pub brackets_from : (d i j : ℕ) → AreBrackets text ts d i j → pair_end ts j ≡ None → brackets ts (length ts) 0 i ≡ standing d j
  brackets_from d i j h none = brackets_again d (length ts) 0 i j h none (omega arith) ∙ ap (λ k. standing k j) (zero-add d)

  pub bare_again : (x : TypeExpr) (i j : ℕ) → SpellsType text ts x i j → HasNoArguments x → sort_at ts j ≢ s.Mark m.Dot → pair_end ts j ≡ None → bare_type ts i ≡ got_type x j
  unfolding bare_type
  bare_again (t.Written n h span args d) i j (node, a, p, q, b, r, w) none ends no_pair = by_arguments args none r
    where
      by_arguments : (args : TypeExprs) → args ≡ t.NoTypes → AreArguments text ts h args a b
          → (type_head ts i >>= (λ h. Some (written ts i h (no_types ts h.next) (brackets ts (length ts) 0 h.next)))) ≡ got_type (t.Written n h span args d) j
      by_arguments t.NoTypes none r =
          let from_a : AreBrackets text ts d a j = rw (← r) w in
          rw (head_again h i a p (before_brackets (s.Mark m.Dot) d a j from_a (λ e. cc) ends), brackets_from d a j from_a no_pair, node, q) refl
      by_arguments (t.AndType x xs) none r = absurd (cc)

  module _ (limit : ℕ) (below : ℕ → Option (Read TypeExpr))
      (again : (x : TypeExpr) (i j : ℕ) → type_depth x < limit → SpellsType text ts x i j → Closed ts j → below i ≡ got_type x j) where
    argument_again : (x : TypeExpr) (i j : ℕ) → type_depth x < limit → SpellsType text ts x i j → (IsPrimitive x → ⊥) → Closed ts j
        → argument ts limit below i ≡ Some (record { tree = x; depth = type_depth x + 1; next = j })
    unfolding argument
    argument_again x i j low p no_prim ends =
        let array : is_primitive x ≡ false = not_true _ (λ e. no_prim (is_primitive_says x e)) in
        rw (again x i j low p ends, array, rise_has limit (type_depth x) low) refl

    more_types_ends : (xs : TypeExprs) (i j : ℕ) → AreMoreTypes text ts xs i j → Closed ts i
    more_types_ends t.NoTypes i j (is, next) = closed_at ts i _ is (λ e. cc) (λ e. cc) (λ e. cc)
    more_types_ends (t.AndType x rest) i j (is, a, p, no_prim, more) = closed_at ts i _ is (λ e. cc) (λ e. cc) (λ e. cc)

    more_types_again : (xs : TypeExprs) (before : List TypeExpr) (n top i j : ℕ) → below_types xs ≤ limit → AreMoreTypes text ts xs i j → length ts ≤ n + i
        → more_types ts limit below n before top i ≡ Some (record { tree = before ++ listed xs; depth = max top (below_types xs); next = j })
    unfolding more_types
    more_types_again t.NoTypes before zero top i j low (is, next) turns = absurd (omega (arith, within ts i (s.Infix op.Greater) is (λ e. cc)))
    more_types_again (t.AndType x rest) before zero top i j low (is, a, p, no_prim, more) turns = absurd (omega (arith, within ts i (s.Mark m.Comma) is (λ e. cc)))
    more_types_again t.NoTypes before (suc n) top i j low (is, next) turns =
        let high : max top 0 ≡ top = omega arith in
        rw (after_infix_has ts op.Greater i is, append-nil before, high, next) refl
    more_types_again (t.AndType x rest) before (suc n) top i j low (is, a, p, no_prim, more) turns =
        let on = SpellsType-on x (i + 1) a p in
        let read = argument_again x (i + 1) a (omega arith) p no_prim (more_types_ends rest a j more) in
        let all = more_types_again rest (before ++ x ∷ []) n (max top (type_depth x + 1)) a j (omega arith) more (omega arith) in
        let high : max (max top (type_depth x + 1)) (below_types rest) ≡ max top (max (type_depth x + 1) (below_types rest)) = omega arith in
        let no_end : after_infix ts op.Greater i ≡ None = after_infix_not ts op.Greater i (λ e. let both = sym is ∙ e in cc) in
        rw (no_end, after_mark_has ts m.Comma i is, read)
        (all ∙ ap (λ xs. Some (record { tree = xs; depth = max (max top (type_depth x + 1)) (below_types rest); next = j })) (append_assoc before (x ∷ []) (listed rest))
        ∙ ap (λ d. Some (record { tree = before ++ x ∷ listed rest; depth = d; next = j })) high)

    arguments_again : (h : Head) (xs : TypeExprs) (i j : ℕ) → below_types xs ≤ limit → AreArguments text ts h xs i j → (xs ≡ t.NoTypes → sort_at ts i ≢ s.Infix op.Less)
        → arguments ts limit below (is_path h) i ≡ Some (record { tree = listed xs; depth = below_types xs; next = j })
    unfolding arguments first_argument
    arguments_again (head.Prim q) t.NoTypes i j low e no_less = rw e refl
    arguments_again (head.Path ys) t.NoTypes i j low e no_less = rw (after_infix_not ts op.Less i (no_less refl), e) refl
    arguments_again (head.Prim q) (t.AndType x rest) i j low e no_less = absurd e
    arguments_again (head.Path ys) (t.AndType x rest) i j low (less, a, p, no_prim, more) no_less =
        let on = SpellsType-on x (i + 1) a p in
        let read = argument_again x (i + 1) a (omega arith) p no_prim (more_types_ends rest a j more) in
        let all = more_types_again rest (x ∷ []) (length ts) (type_depth x + 1) a j (omega arith) more (omega arith) in
        rw (after_infix_has ts op.Less i less, read) all

    -- what stands behind the head of a type is no dot
    head_ends : (h : Head) (xs : TypeExprs) (a b : ℕ) → AreArguments text ts h xs a b → sort_at ts b ≢ s.Mark m.Dot → sort_at ts a ≢ s.Mark m.Dot
    head_ends h t.NoTypes a b e apart = rw (← e) apart
    head_ends (head.Prim q) (t.AndType x rest) a b e apart = absurd e
    head_ends (head.Path ys) (t.AndType x rest) a b (less, c, p, no_prim, more) apart = λ e. let both = sym less ∙ e in cc

    less_follows : (h : Head) (xs : TypeExprs) (a b : ℕ) → AreArguments text ts h xs a b → sort_at ts b ≢ s.Infix op.Less → xs ≡ t.NoTypes → sort_at ts a ≢ s.Infix op.Less
    less_follows h t.NoTypes a b e apart none = rw (← e) apart
    less_follows h (t.AndType x rest) a b e apart none = absurd (cc)

    pub rule_again : (x : TypeExpr) (i j : ℕ) → type_depth x ≤ limit → SpellsType text ts x i j → Closed ts j → type_rule ts limit below i ≡ got_type x j
    unfolding type_rule
    rule_again (t.Written n h span args d) i j low (node, a, p, q, b, r, w) ends =
        let no_dot = before_brackets (s.Mark m.Dot) d b j w (λ e. cc) ends.no_dot in
        let no_less = before_brackets (s.Infix op.Less) d b j w (λ e. cc) ends.no_less in
        rw (
          head_again h i a p (head_ends h args a b r no_dot),
          arguments_again h args a b low r (less_follows h args a b r no_less),
          brackets_from d b j w ends.no_pair,
          types-listed args,
          node,
          q,
        ) refl

  pub type_again : (limit : ℕ) (x : TypeExpr) (i j : ℕ) → type_depth x < limit → SpellsType text ts x i j → Closed ts j → read_type ts limit i ≡ got_type x j
  unfolding read_type
  type_again zero x i j low p ends = absurd (omega arith)
  type_again (suc limit) x i j low p ends = rule_again limit (read_type ts limit) (type_again limit) x i j (omega arith) p ends
