-- How far a type goes is found without reading it.
use Rattle.std.proofs.Common.{◌≡◌, ◌≢◌, ℕ, zero, suc, ◌+◌, ◌-◌, ◌<◌, ◌≤◌, Bool, true, false, not, ◌&&◌, cond, List, [], ◌∷◌, length, Some, None, refl, sym, ap, subst, ◌∙◌, arith, nat_lt, ◌==◌, add-one}
use Rattle.std.proofs.lemmas.Bool.Decides.{nat_tests}
use Rattle.java_tree.specs.declared.tree.Name.{Name}
use Rattle.java_tree.specs.declared.tree.Node.{Node}
use Rattle.java_tree.specs.declared.tree.Span.{Span}
use Rattle.java_tree.specs.declared.tree.Head.{Head}
use Rattle.java_tree.specs.declared.tree.Head.TheVariants as head
use Rattle.java_tree.specs.declared.tree.BinOp.TheVariants as op
use Rattle.java_tree.specs.Plain as t
use Rattle.java_tree.specs.Plain.{TypeExpr, TypeExprs}
use Rattle.java_grammar.specs.declared.token.Tok.{Tok}
use Rattle.java_grammar.specs.declared.token.Sort.{Sort}
use Rattle.java_grammar.specs.declared.token.Sort.TheVariants as s
use Rattle.java_grammar.specs.declared.token.Mark.TheVariants as m
use Rattle.java_grammar.specs.Reads.{sort_at, span_of}
use Rattle.java_grammar.specs.Expressions.{IsPrimitive, GoesOn, Stands, node_of, AreBrackets, IsPath, IsHead, SpellsType, AreMoreTypes}
use Rattle.java_parse_term.specs.declared.signs.Standing.{Standing}
use Rattle.java_parse_term.specs.declared.types.Scan.{Scan}
use Rattle.java_parse_term.specs.Marks.{◌>>=◌, given, after_mark, after_infix, after_word, dotted}
use Rattle.java_parse_term.specs.Signs.{standing}
use Rattle.java_parse_term.specs.Types.{primitive_of, goes_on, is_path, id_at, brackets, first_argument, path_end, head_end, head_only, scan_type, scan_on, scan_step, scan, type_end}
use Rattle.java_parse_term.proofs.Steps.{not_true, both_true, after_mark_says, after_mark_has, after_mark_not, after_infix_says, after_infix_has, after_infix_not, after_word_has, dotted_says, dotted_has, dotted_not, step, step_unless, step_given, step_word}
use Rattle.java_parse_term.proofs.TypesSound.{primitive_says, zero_says, zero_has, path_longer, brackets_are, first_argument_says, arguments_from, no_arguments}
use Rattle.java_parse_term.proofs.TypesComplete.{primitive_has, within, Closed, closed_at, goes_on_not, IsHead-on, AreBrackets-on, before_brackets, brackets_from}

pub goes_on_says : (text : List ℕ) (ts : List Tok) (x : Sort) → goes_on x ≡ false → GoesOn text ts x → ⊥
goes_on_says text ts (s.Mark m.Dot) e h = cc
goes_on_says text ts (s.Mark m.LeftBracket) e h = cc
goes_on_says text ts (s.Infix op.Less) e h = cc
goes_on_says text ts _ e h = h

pub goes_on_has : (text : List ℕ) (ts : List Tok) (x : Sort) → (GoesOn text ts x → ⊥) → goes_on x ≡ false
goes_on_has text ts (s.Mark m.Dot) h = absurd (h tt)
goes_on_has text ts (s.Mark m.LeftBracket) h = absurd (h tt)
goes_on_has text ts (s.Infix op.Less) h = absurd (h tt)
goes_on_has text ts _ h = refl

abbrev scan_at : ℕ → Bool → ℕ → Scan
scan_at n whole i = record { nesting = n; is_whole = whole; at = i }

module _ (text : List ℕ) (ts : List Tok) where
  -- ---- what is found is a type's end

  record FineEnd (i j : ℕ) : Type 0 where
    names : List Name
    is : IsPath text ts names i j

  path_end_fine : (n i j : ℕ) → path_end ts n i ≡ Some j → FineEnd i j
  unfolding path_end
  path_end_fine zero i j e = absurd (cc)
  path_end_fine (suc n) i j e = by_dot (λ k e. path_end_fine n k j e) e
    where
      by_dot : ((k : ℕ) → path_end ts n k ≡ Some j → FineEnd k j) → (after_word ts i >>= (λ next. given (dotted ts next) (path_end ts n) (Some next))) ≡ Some j → FineEnd i j
      by_dot again e =
          step_word ts i _ j e (λ word e1.
          step_given (dotted ts (i + 1)) _ _ j e1
          (λ k is e2.
          let d = dotted_says ts (i + 1) k is in
          let r = again k e2 in
          let two : k ≡ i + 2 = omega (arith, d.2) in
          let more : IsPath text ts r.names (i + 2) j = subst (λ p. IsPath text ts r.names p j) two r.is in
          record { names = id_at ts i ∷ r.names; is = path_longer text ts (id_at ts i) r.names i j (word, refl) d.0 more })
          (λ none e2.
          let is : i + 1 ≡ j = cc in
          record { names = id_at ts i ∷ []; is = ((word, refl), sym is) }))

  record FineHead (i : ℕ) (g : Standing Bool) : Type 0 where
    tree : Head
    is : IsHead text ts tree i g.next
    path_is : is_path tree ≡ g.is

  head_end_fine : (i : ℕ) (g : Standing Bool) → head_end ts i ≡ Some g → FineHead i g
  unfolding head_end
  head_end_fine i g e =
      step_given (primitive_of (sort_at ts i)) _ _ g e
      (λ p is e1.
      let same : standing false (i + 1) ≡ g = cc in
      subst (FineHead i) same (record { tree = head.Prim p; is = (primitive_says _ p is, refl); path_is = refl }))
      (λ none e1.
      step (path_end ts (length ts) i) _ g e1 (λ next read e2.
      let r = path_end_fine (length ts) i next read in
      let same : standing true next ≡ g = cc in
      subst (FineHead i) same (record { tree = head.Path r.names; is = r.is; path_is = refl })))

  -- a type has been passed, and what is left to do in fewer turns
  record Passed (t n i j : ℕ) : Type 0 where
    type : TypeExpr
    next : ℕ
    left : ℕ
    spells : SpellsType text ts type i next
    array : 0 < n → IsPrimitive type → ⊥
    on : scan ts left (scan_at n true next) ≡ Some j
    less : left < t

  -- the same for the arguments that are left
  record PassedMore (t n i j : ℕ) : Type 0 where
    rest : TypeExprs
    next : ℕ
    left : ℕ
    spells : AreMoreTypes text ts rest i next
    on : scan ts left (scan_at n true (brackets ts (length ts) 0 next).next) ≡ Some j
    less : left < t

  only_head : (n : ℕ) (path_is : Bool) (b : Standing ℕ) (y : Scan) → head_only n path_is b ≡ Some y → (y ≡ scan_at n true b.next) × (0 < n → path_is ≡ false → b.is ≡ 0 → ⊥)
  unfolding head_only
  only_head n path_is b y e =
      step_unless (nat_lt 0 n && (not path_is && (b.is == 0))) _ y e (λ apart e1.
      (sym (by_some e1), λ some prim none. by_none apart some prim none))
    where
      by_some : Some (scan_at n true b.next) ≡ Some y → scan_at n true b.next ≡ y
      by_some e = cc

      by_none : (nat_lt 0 n && (not path_is && (b.is == 0))) ≡ false → 0 < n → path_is ≡ false → b.is ≡ 0 → ⊥
      by_none apart some prim none =
          let first : nat_lt 0 n ≡ true = grind (arith, nat_tests) in
          let third : (b.is == 0) ≡ true = zero_has b.is none in
          let all : (nat_lt 0 n && (not path_is && (b.is == 0))) ≡ true = rw (first, prim, third) refl in
          let both = sym apart ∙ all in
          cc

  no_primitive_type : (n : ℕ) (h : Head) (node : Node) (span : Span) (d : ℕ) (g : Bool) → is_path h ≡ g → (0 < n → g ≡ false → d ≡ 0 → ⊥)
      → 0 < n → IsPrimitive (t.Written node h span t.NoTypes d) → ⊥
  no_primitive_type n (head.Path xs) node span d g is apart some e = e
  no_primitive_type n (head.Prim p) node span d g is apart some e = apart some (sym is) e

  with_arguments : (n : ℕ) (h : Head) (node : Node) (span : Span) (x : TypeExpr) (rest : TypeExprs) (d : ℕ) → is_path h ≡ true → IsPrimitive (t.Written node h span (t.AndType x rest) d) → ⊥
  with_arguments n (head.Path xs) node span x rest d is e = e
  with_arguments n (head.Prim p) node span x rest d is e = cc

  mutual
    unfolding scan scan_step scan_type scan_on

    scan_fine : (fuel u n i j : ℕ) → u ≤ fuel → scan ts u (scan_at n false i) ≡ Some j → Passed u n i j
    scan_fine fuel zero n i j le e = absurd (cc)
    scan_fine zero (suc u) n i j le e = absurd (omega arith)
    scan_fine (suc fuel) (suc u) n i j le e =
        step (head_end ts i >>= (λ h. given (first_argument ts h.is h.next) (λ first. Some (scan_at (n + 1) false first)) (head_only n h.is (brackets ts (length ts) 0 h.next)))) _ j e (λ y here e1.
        step (head_end ts i) _ y here (λ h read e2.
        let ok = head_end_fine i h read in
        step_given (first_argument ts h.is h.next) _ _ y e2
        (λ first is e3.
        let p = first_argument_says text ts h.is h.next first is in
        let begins : scan_at (n + 1) false first ≡ y = cc in
        let one = scan_fine fuel u (n + 1) first j (omega arith) (rw begins e1) in
        let more = rest_fine fuel one.left n one.next j (omega (arith, one.less)) (subst (λ k. scan ts one.left (scan_at k true one.next) ≡ Some j) (add-one n) one.on) in
        let b = brackets ts (length ts) 0 more.next in
        let node = node_of text ts i b.next in
        let span = span_of ts i h.next in
        let spells : SpellsType text ts one.type (h.next + 1) one.next = subst (λ q. SpellsType text ts one.type q one.next) p.2 one.spells in
        let path_is : is_path ok.tree ≡ true = ok.path_is ∙ p.0 in
        record {
          type = t.Written node ok.tree span (t.AndType one.type more.rest) b.is;
          next = b.next;
          left = more.left;
          spells = (refl, h.next, ok.is, refl, more.next, arguments_from text ts ok.tree h.next more.next one.next one.type more.rest path_is p.1 spells (one.array (omega arith)) more.spells, brackets_are text ts more.next);
          array = λ some. with_arguments n ok.tree node span one.type more.rest b.is path_is;
          on = more.on;
          less = omega (arith, one.less, more.less);
        })
        (λ none e3.
        let b = brackets ts (length ts) 0 h.next in
        let only = only_head n h.is b y e3 in
        let node = node_of text ts i b.next in
        let span = span_of ts i h.next in
        record {
          type = t.Written node ok.tree span t.NoTypes b.is;
          next = b.next;
          left = u;
          spells = (refl, h.next, ok.is, refl, h.next, no_arguments text ts ok.tree h.next, brackets_are text ts h.next);
          array = no_primitive_type n ok.tree node span b.is h.is ok.path_is only.1;
          on = rw (← only.0) e1;
          less = omega arith;
        })))

    rest_fine : (fuel u n i j : ℕ) → u ≤ fuel → scan ts u (scan_at (suc n) true i) ≡ Some j → PassedMore u n i j
    rest_fine fuel zero n i j le e = absurd (cc)
    rest_fine zero (suc u) n i j le e = absurd (omega arith)
    rest_fine (suc fuel) (suc u) n i j le e =
        let open_still : (suc n == 0) ≡ false = grind (arith, nat_tests) in
        step (given (after_mark ts m.Comma i) (λ first. Some (scan_at (suc n) false first))
        (after_infix ts op.Greater i >>= (λ next. Some (scan_at (suc n - 1) true (brackets ts (length ts) 0 next).next)))) _ j (rw open_still at e) (λ y here e1.
        step_given (after_mark ts m.Comma i) _ _ y here
        (λ first is e2.
        let p = after_mark_says ts m.Comma i first is in
        let begins : scan_at (suc n) false first ≡ y = cc in
        let one = scan_fine fuel u (suc n) first j (omega arith) (rw begins e1) in
        let more = rest_fine fuel one.left n one.next j (omega (arith, one.less)) one.on in
        let spells : SpellsType text ts one.type (i + 1) one.next = subst (λ q. SpellsType text ts one.type q one.next) p.1 one.spells in
        record {
          rest = t.AndType one.type more.rest;
          next = more.next;
          left = more.left;
          spells = (p.0, one.next, spells, one.array (omega arith), more.spells);
          on = more.on;
          less = omega (arith, one.less, more.less);
        })
        (λ none e2.
        step (after_infix ts op.Greater i) _ y e2 (λ next is e3.
        let p = after_infix_says ts op.Greater i next is in
        let one_less : suc n - 1 ≡ n = omega arith in
        let ends : scan_at (suc n - 1) true (brackets ts (length ts) 0 next).next ≡ y = cc in
        record {
          rest = t.NoTypes;
          next = next;
          left = u;
          spells = (p.0, p.1);
          on = rw (← one_less, ends) e1;
          less = omega arith;
        })))

  pub record Type_end (i j : ℕ) : Type 0 where
    pub tree : TypeExpr
    pub spells : SpellsType text ts tree i j
    pub ends : GoesOn text ts (sort_at ts j) → ⊥

  scan_end : (t i j : ℕ) → scan ts t (scan_at 0 true i) ≡ Some j → (i ≡ j) × (goes_on (sort_at ts i) ≡ false)
  unfolding scan
  scan_end zero i j e = absurd (cc)
  scan_end (suc t) i j e = step_unless (goes_on (sort_at ts i)) _ j e (λ ends same. (by_some same, ends))
    where
      by_some : Some i ≡ Some j → i ≡ j
      by_some e = cc

  pub type_end_fine : (i j : ℕ) → type_end ts i ≡ Some j → Type_end i j
  unfolding type_end
  type_end_fine i j e =
      let r = scan_fine (length ts + 2) (length ts + 2) 0 i j (omega arith) e in
      let q = scan_end r.left r.next j r.on in
      subst (Type_end i) q.0 (record { tree = r.type; spells = r.spells; ends = goes_on_says text ts (sort_at ts r.next) q.1 })

  -- ---- each type's end is found

  path_end_again : (n : ℕ) (xs : List Name) (i j : ℕ) → IsPath text ts xs i j → sort_at ts j ≢ s.Mark m.Dot → length ts ≤ n + i → path_end ts n i ≡ Some j
  unfolding path_end
  path_end_again n [] i j h ends turns = absurd h
  path_end_again zero (x ∷ []) i j ((is, name), next) ends turns = absurd (omega (arith, within ts i s.Word is (λ e. cc)))
  path_end_again zero (x ∷ y ∷ xs) i j ((is, name), dot, h) ends turns = absurd (omega (arith, within ts i s.Word is (λ e. cc)))
  path_end_again (suc n) (x ∷ []) i j ((is, name), next) ends turns = rw (after_word_has ts i is, dotted_not ts (i + 1) (rw next at ends), next) refl
  path_end_again (suc n) (x ∷ y ∷ xs) i j ((is, name), dot, h) ends turns =
      let two : i + 1 + 1 ≡ i + 2 = omega arith in
      rw (after_word_has ts i is, dotted_has ts (i + 1) dot (rw two (path_word (y ∷ xs) (i + 2) j h)), two) (path_end_again n (y ∷ xs) (i + 2) j h ends (omega arith))
    where
      path_word : (xs : List Name) (i j : ℕ) → IsPath text ts xs i j → sort_at ts i ≡ s.Word
      path_word [] i j h = absurd h
      path_word (x ∷ []) i j (id, h) = id.0
      path_word (x ∷ y ∷ xs) i j (id, dot, h) = id.0

  head_end_again : (h : Head) (i j : ℕ) → IsHead text ts h i j → sort_at ts j ≢ s.Mark m.Dot → head_end ts i ≡ Some (standing (is_path h) j)
  unfolding head_end
  head_end_again (head.Prim p) i j (is, next) ends = rw (is, primitive_has p, next) refl
  head_end_again (head.Path xs) i j h ends = rw (first xs h, path_end_again (length ts) xs i j h ends (omega arith)) refl
    where
      first : (xs : List Name) → IsPath text ts xs i j → sort_at ts i ≡ s.Word
      first [] h = absurd h
      first (x ∷ []) (id, h) = id.0
      first (x ∷ y ∷ xs) (id, dot, h) = id.0

  -- scanning goes from i to k, and has turns left for the tokens that are left
  record Scanned (t : ℕ) (x : Scan) (n k : ℕ) : Type 0 where
    left : ℕ
    is : scan ts t x ≡ scan ts left (scan_at n true k)
    enough : t + x.at ≤ left + k
    some : 0 < left

  scan_turn : (t n i : ℕ) (y : Scan) → scan_type ts n i ≡ Some y → scan ts (suc t) (scan_at n false i) ≡ scan ts t y
  unfolding scan scan_step
  scan_turn t n i y read = rw read refl

  rest_turn : (t n i : ℕ) (y : Scan) → scan_on ts (suc n) i ≡ Some y → scan ts (suc t) (scan_at (suc n) true i) ≡ scan ts t y
  unfolding scan scan_step
  rest_turn t n i y read = let open_still : (suc n == 0) ≡ false = grind (arith, nat_tests) in rw (open_still, read) refl

  head_alone : (n : ℕ) (h : Head) (node : Node) (span : Span) (d j : ℕ) → (0 < n → IsPrimitive (t.Written node h span t.NoTypes d) → ⊥)
      → head_only n (is_path h) (standing d j) ≡ Some (scan_at n true j)
  unfolding head_only
  head_alone n (head.Path xs) node span d j array = let apart : (nat_lt 0 n && false) ≡ false = by_test (nat_lt 0 n) in rw apart refl
    where
      by_test : (b : Bool) → (b && false) ≡ false
      by_test true = refl
      by_test false = refl
  head_alone n (head.Prim p) node span d j array =
      let apart : (nat_lt 0 n && (d == 0)) ≡ false = not_true _ (λ e. both_true (nat_lt 0 n) (d == 0) e (λ a b. let some : 0 < n = grind (arith, nat_tests) in array some (zero_says d b))) in
      rw apart refl

  bare_scan : (n : ℕ) (h : Head) (node : Node) (span : Span) (d i a j : ℕ) → IsHead text ts h i a → AreBrackets text ts d a j → Closed ts j
      → (0 < n → IsPrimitive (t.Written node h span t.NoTypes d) → ⊥) → scan_type ts n i ≡ Some (scan_at n true j)
  unfolding scan_type first_argument
  bare_scan n h node span d i a j p w ends array =
      let no_dot = before_brackets text ts (s.Mark m.Dot) d a j w (λ e. cc) ends.no_dot in
      let no_less = before_brackets text ts (s.Infix op.Less) d a j w (λ e. cc) ends.no_less in
      let none : cond (is_path h) (after_infix ts op.Less a) None ≡ None = by_path (is_path h) no_less in
      rw (head_end_again h i a p no_dot, none, brackets_from text ts d a j w ends.no_pair) (head_alone n h node span d j array)
    where
      by_path : (b : Bool) → sort_at ts a ≢ s.Infix op.Less → cond b (after_infix ts op.Less a) None ≡ None
      by_path true apart = after_infix_not ts op.Less a apart
      by_path false apart = refl

  open_scan : (n : ℕ) (xs : List Name) (i a : ℕ) → IsPath text ts xs i a → Stands text ts (s.Infix op.Less) a → scan_type ts n i ≡ Some (scan_at (n + 1) false (a + 1))
  unfolding scan_type first_argument
  open_scan n xs i a p less = rw (head_end_again (head.Path xs) i a p (λ e. let both = sym less ∙ e in cc), after_infix_has ts op.Less a less) refl

  comma_scan : (n i : ℕ) → Stands text ts (s.Mark m.Comma) i → scan_on ts (suc n) i ≡ Some (scan_at (suc n) false (i + 1))
  unfolding scan_on
  comma_scan n i is = rw (after_mark_has ts m.Comma i is) refl

  close_scan : (n i : ℕ) → Stands text ts (s.Infix op.Greater) i → scan_on ts (suc n) i ≡ Some (scan_at n true (brackets ts (length ts) 0 (i + 1)).next)
  unfolding scan_on
  close_scan n i is =
      let none : after_mark ts m.Comma i ≡ None = after_mark_not ts m.Comma i (λ e. let both = sym is ∙ e in cc) in
      let one_less : suc n - 1 ≡ n = omega arith in
      rw (none, after_infix_has ts op.Greater i is, one_less) refl

  path_within : (xs : List Name) (i j : ℕ) → IsPath text ts xs i j → i < length ts
  path_within [] i j h = absurd h
  path_within (x ∷ []) i j ((is, name), h) = within ts i s.Word is (λ e. cc)
  path_within (x ∷ y ∷ xs) i j ((is, name), dot, h) = within ts i s.Word is (λ e. cc)

  head_within : (h : Head) (i j : ℕ) → IsHead text ts h i j → i < length ts
  head_within (head.Prim c) i j (is, next) = within ts i _ is (λ e. cc)
  head_within (head.Path xs) i j p = path_within xs i j p

  type_within : (x : TypeExpr) (i j : ℕ) → SpellsType text ts x i j → i < length ts
  type_within (t.Written node h span args d) i j (at_node, a, p, q, b, r, w) = head_within h i a p

  rest_within : (xs : TypeExprs) (i j : ℕ) → AreMoreTypes text ts xs i j → i < length ts
  rest_within t.NoTypes i j (is, next) = within ts i _ is (λ e. cc)
  rest_within (t.AndType x rest) i j (is, c, p, q, more) = within ts i _ is (λ e. cc)

  rest_ends : (xs : TypeExprs) (i j : ℕ) → AreMoreTypes text ts xs i j → Closed ts i
  rest_ends t.NoTypes i j (is, next) = closed_at ts i _ is (λ e. cc) (λ e. cc) (λ e. cc)
  rest_ends (t.AndType x rest) i j (is, c, p, q, more) = closed_at ts i _ is (λ e. cc) (λ e. cc) (λ e. cc)

  mutual
    scan_again : (x : TypeExpr) (u n i j : ℕ) → (0 < n → IsPrimitive x → ⊥) → SpellsType text ts x i j → Closed ts j → length ts + 2 ≤ u + i → Scanned u (scan_at n false i) n j
    scan_again x zero n i j array p ends turns = absurd (omega (arith, type_within x i j p))
    scan_again (t.Written node h span t.NoTypes d) (suc u) n i j array (at_node, a, p, q, b, r, w) ends turns =
        let from_a : AreBrackets text ts d a j = rw (← r) w in
        let on = IsHead-on text ts h i a p in
        let on' = AreBrackets-on text ts d a j from_a in
        record { left = u; is = scan_turn u n i (scan_at n true j) (bare_scan n h node span d i a j p from_a ends array); enough = omega arith; some = omega (arith, head_within h i a p) }
    scan_again (t.Written node (head.Prim c) span (t.AndType x rest) d) (suc u) n i j array (at_node, a, p, q, b, r, w) ends turns = absurd r
    scan_again (t.Written node (head.Path xs) span (t.AndType x rest) d) (suc u) n i j array (at_node, a, p, q, b, (less, c, first, no_prim, more), w) ends turns =
        let on = IsHead-on text ts (head.Path xs) i a p in
        let one = scan_again x u (n + 1) (a + 1) c (λ some. no_prim) first (rest_ends rest c b more) (omega arith) in
        let one_is : scan ts one.left (scan_at (n + 1) true c) ≡ scan ts one.left (scan_at (suc n) true c) = ap (λ k. scan ts one.left (scan_at k true c)) (add-one n) in
        let then = rest_again rest one.left n c b j (rw (brackets_from text ts d b j w ends.no_pair) refl) more (omega (arith, one.enough)) in
        record {
          left = then.left;
          is = scan_turn u n i (scan_at (n + 1) false (a + 1)) (open_scan n xs i a p less) ∙ one.is ∙ one_is ∙ then.is;
          enough = omega (arith, one.enough, then.enough);
          some = then.some;
        }

    rest_again : (xs : TypeExprs) (u n i b k : ℕ) → (brackets ts (length ts) 0 b).next ≡ k → AreMoreTypes text ts xs i b → length ts + 2 ≤ u + i → Scanned u (scan_at (suc n) true i) n k
    rest_again xs zero n i b k behind more turns = absurd (omega (arith, rest_within xs i b more))
    rest_again t.NoTypes (suc u) n i b k behind (is, next) turns =
        let here : (brackets ts (length ts) 0 (i + 1)).next ≡ k = rw (← next) behind in
        let on : i + 1 ≤ k = omega (arith, AreBrackets-on text ts _ (i + 1) _ (brackets_are text ts (i + 1))) in
        record { left = u; is = rest_turn u n i _ (close_scan n i is) ∙ ap (λ k. scan ts u (scan_at n true k)) here; enough = omega arith; some = omega (arith, within ts i _ is (λ e. cc)) }
    rest_again (t.AndType x rest) (suc u) n i b k behind (is, c, first, no_prim, more) turns =
        let one = scan_again x u (suc n) (i + 1) c (λ some. no_prim) first (rest_ends rest c b more) (omega arith) in
        let then = rest_again rest one.left n c b k behind more (omega (arith, one.enough)) in
        record { left = then.left; is = rest_turn u n i (scan_at (suc n) false (i + 1)) (comma_scan n i is) ∙ one.is ∙ then.is; enough = omega (arith, one.enough, then.enough); some = then.some }

  end_turn : (t j : ℕ) → goes_on (sort_at ts j) ≡ false → scan ts (suc t) (scan_at 0 true j) ≡ Some j
  unfolding scan
  end_turn t j ends = rw ends refl

  pub type_end_again : (x : TypeExpr) (i j : ℕ) → SpellsType text ts x i j → (GoesOn text ts (sort_at ts j) → ⊥) → type_end ts i ≡ Some j
  unfolding type_end
  type_end_again x i j p ends =
      let r = scan_again x (length ts + 2) 0 i j (λ some e. omega arith) p (goes_on_not text ts j ends) (omega arith) in
      let turn : r.left ≡ suc (r.left - 1) = omega (arith, r.some) in
      r.is ∙ ap (λ n. scan ts n (scan_at 0 true j)) turn ∙ end_turn (r.left - 1) j (goes_on_has text ts (sort_at ts j) ends)
