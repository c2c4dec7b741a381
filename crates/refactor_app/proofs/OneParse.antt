-- Texts have their trees, or one of them is the first that breaks a rule: one rule, at one byte where the rule is not G1.
use Rattle.std.proofs.Common.{◌≡◌, ℕ, zero, suc, ◌+◌, ◌<◌, ◌≤◌, ◌⊎◌, inl, inr, List, [], ◌∷◌, length, slice_get, Some, refl, sym, ◌∙◌, ap, subst, arith}
use Rattle.std.proofs.lemmas.Bool.{cases_order}
use Rattle.java_tree.specs.Names.{IsTable}
use Rattle.java_tree.specs.Plain.{SourceUnit}
use Rattle.java_tree.specs.declared.tree.Token.{Token}
use Rattle.java_lexer.specs.Lexing.{Lexes}
use Rattle.java_lexer.proofs.TokenLemmas.{one_tokens, one_fault, never_both}
use Rattle.java_grammar.specs.declared.token.Tok.{Tok}
use Rattle.java_grammar.specs.Interned.{interned}
use Rattle.java_grammar.proofs.Reading.{one_toks}
use Rattle.unit_grammar.specs.Declarations.{SpellsUnit}
use Rattle.unit_grammar.specs.Numbers as numbers
use Rattle.unit_grammar.specs.Sizes as size
use Rattle.java_parse_decl.specs.Found.{IsUnit}
use Rattle.java_parse_decl.proofs.Answered.{one}
use Rattle.left_out.specs.Rules.{rule_of, IsFirst}
use Rattle.source_files.specs.Trees.{AreAllowed, AreTrees, BreaksAt, BreaksHere, Fault, Lexical, Tokens, LeftOut, NoTree}
use Rattle.refactor_app.proofs.Tables.{interned_table}

abbrev pub IsNoTree : Fault → Type 0
IsNoTree (NoTree at) = Unit {0}
IsNoTree _ = ⊥

-- the same, or both G1
abbrev pub AreAlike : Fault → Fault → Type 0
AreAlike f g = (f ≡ g) ⊎ (IsNoTree f × IsNoTree g)

one_unit : (text : List ℕ) (names : List (List ℕ)) (tokens : List Token) (first : ℕ) (u v : SourceUnit) → IsTable names → IsUnit text names tokens first u → IsUnit text names tokens first v → u ≡ v
one_unit text names tokens first u v t (ts, are, x, spells, low, is) (us, are', y, spells', low', so) =
    let toks : ts ≡ us = one_toks text names t.distinct tokens ts us are are' in
    let trees : x ≡ y = one text us x y (subst (λ (ts : List Tok). SpellsUnit text ts x) toks spells) spells' in
    is ∙ ap (λ (z : SourceUnit). (numbers.unit z first).0) trees ∙ sym so

same_rule : (text : List ℕ) (ts us : List Token) (i j m n : ℕ) → us ≡ ts → IsFirst text ts i m → IsFirst text us j n → (i ≡ j) × (m ≡ n)
same_rule text ts us i j m n e a b' =
    let b : IsFirst text ts j n = subst (λ (us : List Token). IsFirst text us j n) e b' in
    elim (cases_order i j) [
      | inl same ↦ (same, (let both : Some m ≡ Some n = sym a.rule ∙ ap (λ (k : ℕ). rule_of text ts k) same ∙ b.rule in cc))
      | inr (inl less) ↦ absurd (let both = sym a.rule ∙ b.first i less in cc)
      | inr (inr more) ↦ absurd (let both = sym b.rule ∙ a.first j more in cc)
    ]

module _ (names : List (List ℕ)) (first count : ℕ) (text : List ℕ) where
  -- ---- at one text

  allowed_or_breaks : (tokens : List Token) (f : Fault) → AreAllowed count text tokens → BreaksHere names first count text f → IsNoTree f
  allowed_or_breaks tokens (Lexical rule at) a fails = absurd (never_both text tokens rule at a.lexes fails)
  allowed_or_breaks tokens Tokens a (ts, lexes, many) =
      let size = ap length (one_tokens text tokens ts a.lexes lexes) in absurd (let few = a.few in omega (arith, size, few, many))
  allowed_or_breaks tokens (LeftOut rule at) a (ts, lexes, few, i, t, is, there, place) =
      let same = one_tokens text ts tokens lexes a.lexes in
      absurd (let both = sym is.rule ∙ ap (λ (us : List Token). rule_of text us i) same ∙ a.none i in cc)
  allowed_or_breaks tokens (NoTree at) a h = tt

  one_place : (r s at place : ℕ) → BreaksHere names first count text (LeftOut r at) → BreaksHere names first count text (LeftOut s place) → LeftOut r at ≡ LeftOut s place
  one_place r s at place (ts, lexes, few, i, t, is, there, here) (us, lexes', few', j, v, so, there', here') =
      let tokens = one_tokens text us ts lexes' lexes in
      let same = same_rule text ts us i j r s tokens is so in
      let token : Some t ≡ Some v = sym there ∙ ap (λ (k : ℕ). slice_get ts k) same.0 ∙ ap (λ (us : List Token). slice_get us j) (sym tokens) ∙ there' in
      let token_is : t ≡ v = cc in
      let begins : at ≡ place = here ∙ ap (λ (t : Token). t.span.from) token_is ∙ sym here' in
      rw (same.1, begins) refl

  few_or_many : (ts us : List Token) → Lexes text ts → Lexes text us → count + length ts ≤ 1048576 → 1048576 < count + length us → ⊥
  few_or_many ts us a b few many = let size = ap length (one_tokens text ts us a b) in absurd (omega (arith, size, few, many))

  one_here : (f g : Fault) → BreaksHere names first count text f → BreaksHere names first count text g → AreAlike f g
  one_here (NoTree at) g (ts, allowed, none, place) h = inr (tt, allowed_or_breaks ts g allowed h)
  one_here (Lexical r at) (NoTree place) h (ts, allowed, none, is) = inr (allowed_or_breaks ts (Lexical r at) allowed h, tt)
  one_here Tokens (NoTree place) h (ts, allowed, none, is) = inr (allowed_or_breaks ts Tokens allowed h, tt)
  one_here (LeftOut r at) (NoTree place) h (ts, allowed, none, is) = inr (allowed_or_breaks ts (LeftOut r at) allowed h, tt)
  one_here (Lexical r at) (Lexical s place) a b = let same = one_fault text r s at place a b in inl (rw (same.0, same.1) refl)
  one_here (Lexical r at) Tokens a (ts, lexes, many) = absurd (never_both text ts r at lexes a)
  one_here (Lexical r at) (LeftOut s place) a (ts, lexes, few, i, t, is, there, here) = absurd (never_both text ts r at lexes a)
  one_here Tokens (Lexical r at) (ts, lexes, many) b = absurd (never_both text ts r at lexes b)
  one_here Tokens Tokens a b = inl refl
  one_here Tokens (LeftOut s place) (ts, lexes, many) (us, lexes', few, i, t, is, there, here) = absurd (few_or_many us ts lexes' lexes few many)
  one_here (LeftOut r at) (Lexical s place) (ts, lexes, few, i, t, is, there, here) b = absurd (never_both text ts s place lexes b)
  one_here (LeftOut r at) Tokens (ts, lexes, few, i, t, is, there, here) (us, lexes', many) = absurd (few_or_many ts us lexes lexes' few many)
  one_here (LeftOut r at) (LeftOut s place) a b = inl (one_place r s at place a b)

  -- a text with a tree breaks nothing
  tree_or_breaks : (tokens : List Token) (u : SourceUnit) (f : Fault) → AreAllowed count text tokens → IsUnit text (interned text tokens names) tokens first u
      → BreaksHere names first count text f → ⊥
  tree_or_breaks tokens u (NoTree at) a is (ts, allowed, none, place) =
      none u (subst (λ (us : List Token). IsUnit text (interned text us names) us first u) (one_tokens text tokens ts a.lexes allowed.lexes) is)
  tree_or_breaks tokens u (Lexical r at) a is h = allowed_or_breaks tokens (Lexical r at) a h
  tree_or_breaks tokens u Tokens a is h = allowed_or_breaks tokens Tokens a h
  tree_or_breaks tokens u (LeftOut r at) a is h = allowed_or_breaks tokens (LeftOut r at) a h

  -- ---- behind one text

  -- what is so behind a text by one reading of it is so by each
  behind : (P : List (List ℕ) → ℕ → ℕ → Type 0) (ts us : List Token) (u v : SourceUnit) → IsTable names → AreAllowed count text ts → AreAllowed count text us
      → IsUnit text (interned text ts names) ts first u → IsUnit text (interned text us names) us first v
      → P (interned text us names) (first + size.unit v) (count + length us) → P (interned text ts names) (first + size.unit u) (count + length ts)
  behind P ts us u v table a b is so h =
      let same = one_tokens text us ts b.lexes a.lexes in
      let there : IsUnit text (interned text ts names) ts first v = subst (λ (us : List Token). IsUnit text (interned text us names) us first v) same so in
      let tree = one_unit text (interned text ts names) ts first v u (interned_table text ts names table) there is in
      subst (λ (v : SourceUnit). P (interned text ts names) (first + size.unit v) (count + length ts)) tree
      (subst (λ (us : List Token). P (interned text us names) (first + size.unit v) (count + length us)) same h)

pub trees_or_breaks : (names : List (List ℕ)) (first count : ℕ) (texts : List (List ℕ)) (units : List SourceUnit) (new : List (List ℕ)) (k : ℕ) (f : Fault) → IsTable names
    → AreTrees names first count texts units new → BreaksAt names first count texts k f → ⊥
trees_or_breaks names first count [] units new k f table trees breaks = breaks
trees_or_breaks names first count (x ∷ xs) [] new k f table trees breaks = trees
trees_or_breaks names first count (x ∷ xs) (u ∷ us) new zero f table (ts, allowed, is, more) breaks = tree_or_breaks names first count x ts u f allowed is breaks
trees_or_breaks names first count (x ∷ xs) (u ∷ us) new (suc k) f table (ts, allowed, is, more) (vs, allowed', v, so, breaks) =
    trees_or_breaks (interned x ts names) (first + size.unit u) (count + length ts) xs us new k f (interned_table x ts names table) more
    (behind names first count x (λ ns n m. BreaksAt ns n m xs k f) ts vs u v table allowed allowed' is so breaks)

pub one_break : (names : List (List ℕ)) (first count : ℕ) (texts : List (List ℕ)) (j k : ℕ) (f g : Fault) → IsTable names
    → BreaksAt names first count texts j f → BreaksAt names first count texts k g → (j ≡ k) × AreAlike f g
one_break names first count [] j k f g table a b = absurd a
one_break names first count (x ∷ xs) zero zero f g table a b = (refl, one_here names first count x f g a b)
one_break names first count (x ∷ xs) zero (suc k) f g table a (ts, allowed, u, is, breaks) = absurd (tree_or_breaks names first count x ts u f allowed is a)
one_break names first count (x ∷ xs) (suc j) zero f g table (ts, allowed, u, is, breaks) b = absurd (tree_or_breaks names first count x ts u g allowed is b)
one_break names first count (x ∷ xs) (suc j) (suc k) f g table (ts, allowed, u, is, breaks) (vs, allowed', v, so, breaks') =
    let rest = one_break (interned x ts names) (first + size.unit u) (count + length ts) xs j k f g (interned_table x ts names table) breaks
    (behind names first count x (λ ns n m. BreaksAt ns n m xs k g) ts vs u v table allowed allowed' is so breaks') in
    (ap suc rest.0, rest.1)

-- texts have one list of trees, and one table of names
pub one_trees : (names : List (List ℕ)) (first count : ℕ) (texts : List (List ℕ)) (us vs : List SourceUnit) (new now : List (List ℕ)) → IsTable names
    → AreTrees names first count texts us new → AreTrees names first count texts vs now → (us ≡ vs) × (new ≡ now)
one_trees names first count [] us vs new now table a b = (a.0 ∙ sym b.0, a.1 ∙ sym b.1)
one_trees names first count (x ∷ xs) [] vs new now table a b = absurd a
one_trees names first count (x ∷ xs) (u ∷ us) [] new now table a b = absurd b
one_trees names first count (x ∷ xs) (u ∷ us) (v ∷ vs) new now table (ts, allowed, is, more) (rs, allowed', so, also) =
    let tokens = one_tokens x rs ts allowed'.lexes allowed.lexes in
    let there : IsUnit x (interned x ts names) ts first v = subst (λ (rs : List Token). IsUnit x (interned x rs names) rs first v) tokens so in
    let tree = one_unit x (interned x ts names) ts first u v (interned_table x ts names table) is there in
    let rest = one_trees (interned x ts names) (first + size.unit u) (count + length ts) xs us vs new now (interned_table x ts names table) more
    (behind names first count x (λ ns n m. AreTrees ns n m xs vs now) ts rs u v table allowed allowed' is so also) in
    (ap (λ (w : SourceUnit). w ∷ us) tree ∙ ap (λ (ws : List SourceUnit). v ∷ ws) rest.0, rest.1)

pub trees_table : (names : List (List ℕ)) (first count : ℕ) (texts : List (List ℕ)) (units : List SourceUnit) (new : List (List ℕ)) → IsTable names
    → AreTrees names first count texts units new → IsTable new
trees_table names first count [] units new table trees = subst IsTable (sym trees.1) table
trees_table names first count (x ∷ xs) [] new table trees = absurd trees
trees_table names first count (x ∷ xs) (u ∷ us) new table (ts, allowed, is, more) =
    trees_table (interned x ts names) (first + size.unit u) (count + length ts) xs us new (interned_table x ts names table) more
