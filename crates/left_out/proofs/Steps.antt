-- What stands before a token, and before the next.
use Rattle.std.proofs.Common.{◌≡◌, ◌<◌, ◌≤◌, ℕ, ◌+◌, Bool, true, false, not, ◌&&◌, ◌⊎◌, inl, inr, List, length, take, slice_get, Option, Some, None, codes, refl, sym, ap, subst, ◌∙◌, arith, cond, add-one}
use Rattle.std.specs.Prelude.{count_by, nat_lt}
use Rattle.std.specs.Str.{IsUtf8}
use Rattle.std.proofs.lemmas.List.{length-take-le}
use Rattle.std.proofs.lemmas.List.Sums.{count_by_more_yes, count_by_more_no, count_by-le-length}
use Rattle.std.proofs.lemmas.Option.{slice_get_past, slice_get_within, get_or_from_slice_get}
use Rattle.std.proofs.lemmas.Bool.Decides.{nat_tests}
use Rattle.java_tree.specs.declared.tree.Token.{Token}
use Rattle.java_lexer.specs.Lexing.{Lexes}
use Rattle.java_lexer.proofs.TokenLemmas.{within, token_bytes}
use Rattle.left_out.specs.declared.before.Before.{Before}
use Rattle.left_out.specs.Rules.{bytes_in, is_op, is_mark, follows_dot, token_rule, rule_of, IsFirst}

pub record IsIn (text : List ℕ) (t : Token) : Type 0 where
  pub order : t.span.from ≤ t.span.to
  pub within : t.span.to ≤ length text
  pub utf8 : IsUtf8 (bytes_in text t.span)

pub token_in : (text : List ℕ) (ts : List Token) → Lexes text ts → (i : ℕ) (t : Token) → slice_get ts i ≡ Some t → IsIn text t
token_in text ts l i t e =
    let place = within text ts l i t e in
    let bytes = token_bytes text ts l i t e in
    record { order = omega arith; within = place.1; utf8 = bytes.0 }

-- This stands before token i, and no token before it breaks a rule.
pub record Passed (text : List ℕ) (ts : List Token) (i : ℕ) (before : Before) : Type 0 where
  pub opened : before.opened ≡ count_by (is_mark text (codes "{")) (take i ts)
  pub closed : before.closed ≡ count_by (is_mark text (codes "}")) (take i ts)
  pub dot : before.dot ≡ follows_dot text ts i
  pub none : (j : ℕ) → j < i → rule_of text ts j ≡ None

count_more : (p : Token → Bool) (ts : List Token) (i : ℕ) (t : Token) → slice_get ts i ≡ Some t
    → count_by p (take (i + 1) ts) ≡ cond (p t) (count_by p (take i ts) + 1) (count_by p (take i ts))
count_more p ts i t e = by_test (p t) refl
  where
    by_test : (b : Bool) → p t ≡ b → count_by p (take (i + 1) ts) ≡ cond b (count_by p (take i ts) + 1) (count_by p (take i ts))
    by_test true h = count_by_more_yes p ts i t (slice_get_within ts i t e) (ap p (get_or_from_slice_get ts i t t e) ∙ h)
    by_test false h = count_by_more_no p ts i t (slice_get_within ts i t e) (ap p (get_or_from_slice_get ts i t t e) ∙ h)

below_or_at : (i j : ℕ) → j < i + 1 → (j < i) ⊎ (j ≡ i)
below_or_at i j below = by_test _ refl
  where
    by_test : (b : Bool) → nat_lt j i ≡ b → (j < i) ⊎ (j ≡ i)
    by_test true e = inl (grind (arith, nat_tests))
    by_test false e = inr (grind (arith, nat_tests))

none_more : (text : List ℕ) (ts : List Token) (i : ℕ) → ((j : ℕ) → j < i → rule_of text ts j ≡ None) → rule_of text ts i ≡ None
    → (j : ℕ) → j < i + 1 → rule_of text ts j ≡ None
none_more text ts i before here j below = by_place (below_or_at i j below)
  where
    by_place : (j < i) ⊎ (j ≡ i) → rule_of text ts j ≡ None
    by_place (inl less) = before j less
    by_place (inr same) = subst (λ k. rule_of text ts k ≡ None) (sym same) here

dot_more : (text : List ℕ) (ts : List Token) (i : ℕ) (t : Token) → slice_get ts i ≡ Some t → follows_dot text ts (i + 1) ≡ is_op (codes ".") t.kind (bytes_in text t.span)
dot_more text ts i t e = rw (add-one, e) refl

pub passed_none : (text : List ℕ) (ts : List Token) → Passed text ts 0 (record { opened = 0; closed = 0; dot = false })
passed_none text ts = record { opened = refl; closed = refl; dot = refl; none = λ j below. absurd (omega arith) }

-- the rule of token i, by what stands before it
pub rule_here : (text : List ℕ) (ts : List Token) (i : ℕ) (a : Before) (t : Token) (word : List ℕ) (nests : Bool) (r : Option ℕ) → Passed text ts i a → slice_get ts i ≡ Some t
    → word ≡ bytes_in text t.span → nests ≡ (not a.dot && nat_lt a.closed a.opened) → r ≡ token_rule t.kind word nests → rule_of text ts i ≡ r
rule_here text ts i a t word nests r p e w n same = rw (e, same, w, n, p.dot, p.closed, p.opened) refl

pub passed_more : (text : List ℕ) (ts : List Token) (i : ℕ) (a b : Before) (t : Token) (word : List ℕ) → Passed text ts i a → slice_get ts i ≡ Some t
    → word ≡ bytes_in text t.span → rule_of text ts i ≡ None
    → b.opened ≡ cond (is_op (codes "{") t.kind word) (a.opened + 1) a.opened
    → b.closed ≡ cond (is_op (codes "}") t.kind word) (a.closed + 1) a.closed
    → b.dot ≡ is_op (codes ".") t.kind word → Passed text ts (i + 1) b
passed_more text ts i a b t word p at w rule opened closed dot =
    record {
      opened = opened ∙ ap (λ v. cond (is_op (codes "{") t.kind v) (a.opened + 1) a.opened) w ∙ ap (λ n. cond (is_mark text (codes "{") t) (n + 1) n) p.opened ∙ sym (count_more (is_mark text (codes "{")) ts i t at);
      closed = closed ∙ ap (λ v. cond (is_op (codes "}") t.kind v) (a.closed + 1) a.closed) w ∙ ap (λ n. cond (is_mark text (codes "}") t) (n + 1) n) p.closed ∙ sym (count_more (is_mark text (codes "}")) ts i t at);
      dot = dot ∙ ap (is_op (codes ".") t.kind) w ∙ sym (dot_more text ts i t at);
      none = none_more text ts i p.none rule;
    }

-- No more braces stand before a token than tokens.
pub few_braces : (text : List ℕ) (ts : List Token) (i : ℕ) (a : Before) → Passed text ts i a → i ≤ length ts → (a.opened ≤ i) × (a.closed ≤ i)
few_braces text ts i a p end =
    let size : length (take i ts) ≡ i = length-take-le i ts end in
    let opened = count_by-le-length (is_mark text (codes "{")) (take i ts) in
    let closed = count_by-le-length (is_mark text (codes "}")) (take i ts) in
    (rw p.opened (omega (arith, size, opened)), rw p.closed (omega (arith, size, closed)))

-- There are no more tokens.
pub none_behind : (text : List ℕ) (ts : List Token) (i : ℕ) (a : Before) → Passed text ts i a → length ts ≤ i → (j : ℕ) → rule_of text ts j ≡ None
none_behind text ts i a p end j = by_place _ refl
  where
    by_place : (b : Bool) → nat_lt j i ≡ b → rule_of text ts j ≡ None
    by_place true e = p.none j (grind (arith, nat_tests))
    by_place false e =
        let past : length ts ≤ j = grind (arith, nat_tests) in
        rw (slice_get_past ts j past) refl

pub first_here : (text : List ℕ) (ts : List Token) (i n : ℕ) (a : Before) → Passed text ts i a → rule_of text ts i ≡ Some n → IsFirst text ts i n
first_here text ts i n a p rule = record { rule = rule; first = p.none }
