-- The longest literals in quotes, comments and operators.
use Rattle.std.proofs.Common.{◌≡◌, ◌≤◌, ◌<◌, ℕ, zero, suc, ◌+◌, ◌==◌, Bool, true, false, cond, ◌&&◌, ◌||◌, List, [], ◌∷◌, drop, ◌⊎◌, inl, inr, Option, Some, None, refl, ap, sym, subst, ◌∙◌, arith, add-one, min, nat_lt}
use Rattle.std.proofs.Math.Numerals.{one-add}
use Rattle.std.proofs.lemmas.Bool.Decides.{nat_tests}
use Rattle.std.specs.List.{prefix_len}
use Rattle.java_lexer.specs.Bytes.{head, is_octal, is_up_to_three, is_backslash, is_quote, is_double_quote, is_simple, is_in_text, is_in_char, is_first_of_two, is_first_of_three, is_continuation, is_operator, is_pair, is_triple}
use Rattle.java_lexer.specs.Forms.{Nothing, One, Or}
use Rattle.java_lexer.specs.Pieces.{closes_here, Closes, Escape, OneUnit, Quoted, IsOperator}
use Rattle.java_lexer.specs.Scan.{more, quoted, escape_in_char, wide_len, character, closing, single_len, pair_len, operator_len}
use Rattle.java_lexer.specs.Values.{octal_len}
use Rattle.java_lexer.proofs.Lengths.{more_more}
use Rattle.java_lexer.proofs.FormLemmas.{Most, most_same, most_nothing, one_nil, one_not, most_one, or_right, or_left}
use Rattle.java_lexer.proofs.Apart.{octal_quote, octal_simple, three_octal, double_quote_text, double_quote_backslash, text_backslash, char_backslash, char_two, char_three, backslash_two, backslash_three, two_three}

-- ---- block comments

pub most_closing : (bs : List ℕ) → Most Closes bs (closing bs)
most_closing [] = none
  where
    none : (n : ℕ) → Closes n [] → ⊥
    none zero h = h
    none (suc n) h = h
most_closing (b ∷ bs) = by_test _ refl (most_closing bs)
  where
    by_rest : (o : Option ℕ) → closes_here b bs ≡ false → Most Closes bs o → Most Closes (b ∷ bs) (more 1 o)
    by_rest None e h = none
      where
        none : (n : ℕ) → Closes n (b ∷ bs) → ⊥
        none zero x = x
        none (suc n) (inl x) = cc
        none (suc n) (inr x) = h n x.1
    by_rest (Some k) e h = (rw add-one (inr (e, h.0)), longest)
      where
        longest : (n : ℕ) → Closes n (b ∷ bs) → n ≤ k + 1
        longest zero x = omega arith
        longest (suc n) (inl x) = absurd (cc)
        longest (suc n) (inr x) = let le = h.1 n x.1 in omega arith

    here : closes_here b bs ≡ true → Most Closes (b ∷ bs) (Some 2)
    here e = (inl (e, refl), longest)
      where
        longest : (n : ℕ) → Closes n (b ∷ bs) → n ≤ 2
        longest zero x = omega arith
        longest (suc n) (inl x) = omega arith
        longest (suc n) (inr x) = absurd (cc)

    by_test : (t : Bool) → closes_here b bs ≡ t → Most Closes bs (closing bs) → Most Closes (b ∷ bs) (cond t (Some 2) (more 1 (closing bs)))
    by_test true e h = here e
    by_test false e h = by_rest (closing bs) e h

-- ---- strings

quoted_end : (b : ℕ) (bs : List ℕ) → is_double_quote b ≡ true → Most Quoted (b ∷ bs) (Some 1)
quoted_end b bs e = (e, longest bs)
  where
    longest : (bs : List ℕ) (n : ℕ) → Quoted n (b ∷ bs) → n ≤ 1
    longest bs zero x = omega arith
    longest bs (suc zero) x = omega arith
    longest [] (suc (suc n)) x = absurd x
    longest (c ∷ bs) (suc (suc n)) (inl (t, x)) = let f = double_quote_text b e in absurd (cc)
    longest (c ∷ bs) (suc (suc n)) (inr (t, u, x)) = let f = double_quote_backslash b e in absurd (cc)

quoted_plain : (b c : ℕ) (bs : List ℕ) (o : Option ℕ) → is_double_quote b ≡ false → is_in_text b ≡ true → Most Quoted (c ∷ bs) o → Most Quoted (b ∷ c ∷ bs) (more 1 o)
quoted_plain b c bs None d e h = none
  where
    none : (n : ℕ) → Quoted n (b ∷ c ∷ bs) → ⊥
    none zero x = x
    none (suc zero) x = cc
    none (suc (suc n)) (inl (t, x)) = h (suc n) x
    none (suc (suc n)) (inr (t, u, x)) = let f = text_backslash b e in cc
quoted_plain b c bs (Some k) d e h = (front k h.0, longest)
  where
    front : (k : ℕ) → Quoted k (c ∷ bs) → Quoted (k + 1) (b ∷ c ∷ bs)
    front zero x = absurd x
    front (suc k) x = rw add-one (inl (e, x))

    longest : (n : ℕ) → Quoted n (b ∷ c ∷ bs) → n ≤ k + 1
    longest zero x = omega arith
    longest (suc zero) x = omega arith
    longest (suc (suc n)) (inl (t, x)) = let le = h.1 (suc n) x in omega arith
    longest (suc (suc n)) (inr (t, u, x)) = let f = text_backslash b e in absurd (cc)

valid : (c : ℕ) → (is_simple c || is_octal c) ≡ true → (is_simple c ≡ true) ⊎ (is_octal c ≡ true)
valid c e = by_test _ refl e
  where
    by_test : (t : Bool) → is_simple c ≡ t → (t || is_octal c) ≡ true → (is_simple c ≡ true) ⊎ (is_octal c ≡ true)
    by_test true f g = inl f
    by_test false f g = inr g

quoted_escape : (b c : ℕ) (bs : List ℕ) (o : Option ℕ) → is_double_quote b ≡ false → is_in_text b ≡ false → is_backslash b ≡ true → (is_simple c || is_octal c) ≡ true → Most Quoted bs o
    → Most Quoted (b ∷ c ∷ bs) (more 2 o)
quoted_escape b c bs None d i e v h = none
  where
    none : (n : ℕ) → Quoted n (b ∷ c ∷ bs) → ⊥
    none zero x = x
    none (suc zero) x = cc
    none (suc (suc n)) (inl (t, x)) = cc
    none (suc (suc n)) (inr (t, u, x)) = h n x
quoted_escape b c bs (Some k) d i e v h = (let two : k + 2 ≡ suc (suc k) = omega arith in rw two (inr (e, valid c v, h.0)), longest)
  where
    longest : (n : ℕ) → Quoted n (b ∷ c ∷ bs) → n ≤ k + 2
    longest zero x = omega arith
    longest (suc zero) x = omega arith
    longest (suc (suc n)) (inl (t, x)) = absurd (cc)
    longest (suc (suc n)) (inr (t, u, x)) = let le = h.1 n x in omega arith

invalid : (b c : ℕ) → (is_backslash b && (is_simple c || is_octal c)) ≡ false → is_backslash b ≡ true → ((is_simple c ≡ true) ⊎ (is_octal c ≡ true)) → ⊥
invalid b c e f (inl g) = let x : (is_backslash b && (is_simple c || is_octal c)) ≡ true = rw (f, g) refl in cc
invalid b c e f (inr g) = let h = octal_simple c g in let x : (is_backslash b && (is_simple c || is_octal c)) ≡ true = rw (f, h, g) refl in cc

quoted_wrong : (b c : ℕ) (bs : List ℕ) → is_double_quote b ≡ false → is_in_text b ≡ false → (is_backslash b && (is_simple c || is_octal c)) ≡ false → (n : ℕ) → Quoted n (b ∷ c ∷ bs) → ⊥
quoted_wrong b c bs d i e zero x = x
quoted_wrong b c bs d i e (suc zero) x = cc
quoted_wrong b c bs d i e (suc (suc n)) (inl (t, x)) = cc
quoted_wrong b c bs d i e (suc (suc n)) (inr (t, u, x)) = invalid b c e t u

pub most_quoted : (bs : List ℕ) → Most Quoted bs (quoted bs)
most_quoted [] = none
  where
    none : (n : ℕ) → Quoted n [] → ⊥
    none zero h = h
    none (suc n) h = h
most_quoted (b ∷ []) = by_quote _ refl
  where
    none : is_double_quote b ≡ false → (n : ℕ) → Quoted n (b ∷ []) → ⊥
    none e zero h = h
    none e (suc zero) h = cc
    none e (suc (suc n)) h = h

    by_quote : (t : Bool) → is_double_quote b ≡ t → Most Quoted (b ∷ []) (cond t (Some 1) None)
    by_quote true e = quoted_end b [] e
    by_quote false e = none e
most_quoted (b ∷ c ∷ bs) = by_quote _ refl (most_quoted (c ∷ bs)) (most_quoted bs)
  where
    both : (is_backslash b && (is_simple c || is_octal c)) ≡ true → (is_backslash b ≡ true) × ((is_simple c || is_octal c) ≡ true)
    both e = by_test _ refl e
      where
        by_test : (t : Bool) → is_backslash b ≡ t → (t && (is_simple c || is_octal c)) ≡ true → (is_backslash b ≡ true) × ((is_simple c || is_octal c) ≡ true)
        by_test true f g = (f, g)
        by_test false f g = absurd (cc)

    by_escape : (t : Bool) → (is_backslash b && (is_simple c || is_octal c)) ≡ t → is_double_quote b ≡ false → is_in_text b ≡ false → Most Quoted bs (quoted bs)
        → Most Quoted (b ∷ c ∷ bs) (cond t (more 2 (quoted bs)) None)
    by_escape true e d i h = let v = both e in quoted_escape b c bs (quoted bs) d i v.0 v.1 h
    by_escape false e d i h = quoted_wrong b c bs d i e

    by_text : (t : Bool) → is_in_text b ≡ t → is_double_quote b ≡ false → Most Quoted (c ∷ bs) (quoted (c ∷ bs)) → Most Quoted bs (quoted bs)
        → Most Quoted (b ∷ c ∷ bs) (cond t (more 1 (quoted (c ∷ bs))) (cond (is_backslash b && (is_simple c || is_octal c)) (more 2 (quoted bs)) None))
    by_text true e d g h = quoted_plain b c bs (quoted (c ∷ bs)) d e g
    by_text false e d g h = by_escape _ refl d e h

    by_quote : (t : Bool) → is_double_quote b ≡ t → Most Quoted (c ∷ bs) (quoted (c ∷ bs)) → Most Quoted bs (quoted bs)
        → Most Quoted (b ∷ c ∷ bs) (cond t (Some 1) (cond (is_in_text b) (more 1 (quoted (c ∷ bs))) (cond (is_backslash b && (is_simple c || is_octal c)) (more 2 (quoted bs)) None)))
    by_quote true e g h = quoted_end b (c ∷ bs) e
    by_quote false e g h = by_text _ refl e g h

-- ---- operators

abbrev pub some_len : ℕ → Option ℕ
some_len n = cond (n == 0) None (Some n)

pub pair_operator : (b c : ℕ) → is_pair b c ≡ true → is_operator b ≡ true
pair_operator b c e = grind (arith, nat_tests)

pub triple_operator : (b c d : ℕ) → is_triple b c d ≡ true → is_operator b ≡ true
triple_operator b c d e = grind (arith, nat_tests)

-- the length of an operator, by the tests on its bytes
operator_cases : (b : ℕ) (bs : List ℕ) (t : Bool) → is_operator b ≡ t → ((n : ℕ) → IsOperator n (b ∷ bs) → n ≤ 1) → Most IsOperator (b ∷ bs) (some_len (cond t 1 0))
operator_cases b bs true e le = (e, le)
operator_cases b bs false e le = none bs
  where
    none : (bs : List ℕ) (n : ℕ) → IsOperator n (b ∷ bs) → ⊥
    none bs zero h = h
    none bs (suc zero) h = cc
    none [] (suc (suc zero)) h = h
    none (c ∷ bs) (suc (suc zero)) h = let f = pair_operator b c h in cc
    none [] (suc (suc (suc zero))) h = h
    none (c ∷ []) (suc (suc (suc zero))) h = h
    none (c ∷ d ∷ bs) (suc (suc (suc zero))) h = let f = triple_operator b c d h in cc
    none bs (suc (suc (suc (suc n)))) h = h

pair_cases : (b c : ℕ) (bs : List ℕ) (t : Bool) → is_pair b c ≡ t → ((n : ℕ) → IsOperator n (b ∷ c ∷ bs) → n ≤ 2) → Most IsOperator (b ∷ c ∷ bs) (some_len (cond t 2 (single_len b)))
pair_cases b c bs true e le = (e, le)
pair_cases b c bs false e le = operator_cases b (c ∷ bs) _ refl one
  where
    one : (n : ℕ) → IsOperator n (b ∷ c ∷ bs) → n ≤ 1
    one zero h = omega arith
    one (suc zero) h = omega arith
    one (suc (suc zero)) h = absurd (cc)
    one (suc (suc (suc n))) h = let x = le (suc (suc (suc n))) h in absurd (omega arith)

pub most_operator : (bs : List ℕ) → Most IsOperator bs (some_len (operator_len bs))
most_operator [] = none
  where
    none : (n : ℕ) → IsOperator n [] → ⊥
    none zero h = h
    none (suc zero) h = h
    none (suc (suc zero)) h = h
    none (suc (suc (suc zero))) h = h
    none (suc (suc (suc (suc n)))) h = h
most_operator (b ∷ []) = operator_cases b [] _ refl one
  where
    one : (n : ℕ) → IsOperator n (b ∷ []) → n ≤ 1
    one zero h = omega arith
    one (suc zero) h = omega arith
    one (suc (suc zero)) h = absurd h
    one (suc (suc (suc zero))) h = absurd h
    one (suc (suc (suc (suc n)))) h = absurd h
most_operator (b ∷ c ∷ []) = pair_cases b c [] _ refl two
  where
    two : (n : ℕ) → IsOperator n (b ∷ c ∷ []) → n ≤ 2
    two zero h = omega arith
    two (suc zero) h = omega arith
    two (suc (suc zero)) h = omega arith
    two (suc (suc (suc zero))) h = absurd h
    two (suc (suc (suc (suc n)))) h = absurd h
most_operator (b ∷ c ∷ d ∷ bs) = by_triple _ refl
  where
    three : (n : ℕ) → IsOperator n (b ∷ c ∷ d ∷ bs) → n ≤ 3
    three zero h = omega arith
    three (suc zero) h = omega arith
    three (suc (suc zero)) h = omega arith
    three (suc (suc (suc zero))) h = omega arith
    three (suc (suc (suc (suc n)))) h = absurd h

    two : is_triple b c d ≡ false → (n : ℕ) → IsOperator n (b ∷ c ∷ d ∷ bs) → n ≤ 2
    two e zero h = omega arith
    two e (suc zero) h = omega arith
    two e (suc (suc zero)) h = omega arith
    two e (suc (suc (suc zero))) h = absurd (cc)
    two e (suc (suc (suc (suc n)))) h = absurd h

    by_triple : (t : Bool) → is_triple b c d ≡ t → Most IsOperator (b ∷ c ∷ d ∷ bs) (some_len (cond t 3 (pair_len b c)))
    by_triple true e = (e, three)
    by_triple false e = pair_cases b c (d ∷ bs) _ refl (two e)

-- ---- character literals

abbrev pub close_len : List ℕ → Option ℕ
close_len cs = cond (is_quote (head cs)) (Some 1) None

most_close : (cs : List ℕ) → Most (One is_quote Nothing) cs (close_len cs)
most_close [] = one_nil is_quote Nothing
most_close (b ∷ bs) = by_test _ refl
  where
    by_test : (t : Bool) → is_quote b ≡ t → Most (One is_quote Nothing) (b ∷ bs) (cond t (Some 1) None)
    by_test true e = most_one is_quote Nothing b bs (Some 0) e (most_nothing bs)
    by_test false e = one_not is_quote Nothing b bs e

abbrev pub Close : ℕ → List ℕ → Type 0
Close = One is_quote Nothing

-- behind the opening quote
abbrev pub CharEnd : ℕ → List ℕ → Type 0
CharEnd = Or (OneUnit Close) (Escape Close)

-- a length of a unit, and the closing quote behind it
abbrev pub ended : ℕ → List ℕ → Option ℕ
ended n bs = cond (nat_lt 0 n && is_quote (head (drop n bs))) (Some (n + 1)) None

no_unit : (b : ℕ) (bs : List ℕ) → is_in_char b ≡ false → is_first_of_two b ≡ false → is_first_of_three b ≡ false → Most (OneUnit Close) (b ∷ bs) None
no_unit b bs a two three =
    or_right (One is_in_char Close) (Or (One is_first_of_two (One is_continuation Close)) (One is_first_of_three (One is_continuation (One is_continuation Close)))) (b ∷ bs) None
    (one_not is_in_char Close b bs a)
    (or_right (One is_first_of_two (One is_continuation Close)) (One is_first_of_three (One is_continuation (One is_continuation Close))) (b ∷ bs) None
    (one_not is_first_of_two (One is_continuation Close) b bs two) (one_not is_first_of_three (One is_continuation (One is_continuation Close)) b bs three))

abbrev pub Escaped : ℕ → List ℕ → Type 0
Escaped = Or (One is_simple Close) (Or (One is_octal Close) (Or (One is_octal (One is_octal Close)) (One is_up_to_three (One is_octal (One is_octal Close)))))

no_escape : (b : ℕ) (bs : List ℕ) → is_backslash b ≡ false → Most (Escape Close) (b ∷ bs) None
no_escape b bs e = one_not is_backslash Escaped b bs e

-- one byte
char_one : (b : ℕ) (bs : List ℕ) → is_in_char b ≡ true → Most CharEnd (b ∷ bs) (more 1 (close_len bs))
char_one b bs e =
    or_left (OneUnit Close) (Escape Close) (b ∷ bs) (more 1 (close_len bs))
    (or_left (One is_in_char Close) (Or (One is_first_of_two (One is_continuation Close)) (One is_first_of_three (One is_continuation (One is_continuation Close)))) (b ∷ bs) (more 1 (close_len bs))
    (most_one is_in_char Close b bs (close_len bs) e (most_close bs))
    (or_right (One is_first_of_two (One is_continuation Close)) (One is_first_of_three (One is_continuation (One is_continuation Close))) (b ∷ bs) None
    (one_not is_first_of_two (One is_continuation Close) b bs (char_two b e)) (one_not is_first_of_three (One is_continuation (One is_continuation Close)) b bs (char_three b e))))
    (no_escape b bs (char_backslash b e))

-- an escape, by what stands behind its backslash
char_escape : (b : ℕ) (bs : List ℕ) (o : Option ℕ) → is_backslash b ≡ true → Most Escaped bs o → Most CharEnd (b ∷ bs) (more 1 o)
char_escape b bs o e h =
    or_right (OneUnit Close) (Escape Close) (b ∷ bs) (more 1 o) (no_unit b bs (not_char b e) (backslash_two b e) (backslash_three b e)) (most_one is_backslash Escaped b bs o e h)
  where
    not_char : (b : ℕ) → is_backslash b ≡ true → is_in_char b ≡ false
    not_char b e = by_test _ refl
      where
        by_test : (t : Bool) → is_in_char b ≡ t → is_in_char b ≡ false
        by_test true f = let g = char_backslash b f in absurd (cc)
        by_test false f = f

escaped_nil : Most Escaped [] None
escaped_nil =
    or_right (One is_simple Close) (Or (One is_octal Close) (Or (One is_octal (One is_octal Close)) (One is_up_to_three (One is_octal (One is_octal Close))))) [] None (one_nil is_simple Close)
    (or_right (One is_octal Close) (Or (One is_octal (One is_octal Close)) (One is_up_to_three (One is_octal (One is_octal Close)))) [] None (one_nil is_octal Close)
    (or_right (One is_octal (One is_octal Close)) (One is_up_to_three (One is_octal (One is_octal Close))) [] None (one_nil is_octal (One is_octal Close)) (one_nil is_up_to_three (One is_octal (One is_octal Close)))))

octals_none : (c : ℕ) (bs : List ℕ) → is_octal c ≡ false → Most (Or (One is_octal Close) (Or (One is_octal (One is_octal Close)) (One is_up_to_three (One is_octal (One is_octal Close))))) (c ∷ bs) None
octals_none c bs e =
    or_right (One is_octal Close) (Or (One is_octal (One is_octal Close)) (One is_up_to_three (One is_octal (One is_octal Close)))) (c ∷ bs) None (one_not is_octal Close c bs e)
    (or_right (One is_octal (One is_octal Close)) (One is_up_to_three (One is_octal (One is_octal Close))) (c ∷ bs) None
    (one_not is_octal (One is_octal Close) c bs e) (one_not is_up_to_three (One is_octal (One is_octal Close)) c bs (three_octal c e)))

escaped_simple : (c : ℕ) (bs : List ℕ) → is_simple c ≡ true → Most Escaped (c ∷ bs) (more 1 (close_len bs))
escaped_simple c bs e =
    or_left (One is_simple Close) (Or (One is_octal Close) (Or (One is_octal (One is_octal Close)) (One is_up_to_three (One is_octal (One is_octal Close))))) (c ∷ bs) (more 1 (close_len bs))
    (most_one is_simple Close c bs (close_len bs) e (most_close bs)) (octals_none c bs (not_octal c e))
  where
    not_octal : (c : ℕ) → is_simple c ≡ true → is_octal c ≡ false
    not_octal c e = by_test _ refl
      where
        by_test : (t : Bool) → is_octal c ≡ t → is_octal c ≡ false
        by_test true f = let g = octal_simple c f in absurd (cc)
        by_test false f = f

escaped_none : (c : ℕ) (bs : List ℕ) → is_simple c ≡ false → is_octal c ≡ false → Most Escaped (c ∷ bs) None
escaped_none c bs e f =
    or_right (One is_simple Close) (Or (One is_octal Close) (Or (One is_octal (One is_octal Close)) (One is_up_to_three (One is_octal (One is_octal Close))))) (c ∷ bs) None
    (one_not is_simple Close c bs e) (octals_none c bs f)

close_not : (c : ℕ) (bs : List ℕ) → is_octal c ≡ true → Most Close (c ∷ bs) None
close_not c bs e = one_not is_quote Nothing c bs (octal_quote c e)

abbrev pub Octals : ℕ → List ℕ → Type 0
Octals = Or (One is_octal Close) (Or (One is_octal (One is_octal Close)) (One is_up_to_three (One is_octal (One is_octal Close))))

-- one digit
octals_one : (c : ℕ) (bs : List ℕ) → is_octal c ≡ true → is_octal (head bs) ≡ false → Most Octals (c ∷ bs) (more 1 (close_len bs))
octals_one c bs e f =
    or_left (One is_octal Close) (Or (One is_octal (One is_octal Close)) (One is_up_to_three (One is_octal (One is_octal Close)))) (c ∷ bs) (more 1 (close_len bs))
    (most_one is_octal Close c bs (close_len bs) e (most_close bs))
    (or_right (One is_octal (One is_octal Close)) (One is_up_to_three (One is_octal (One is_octal Close))) (c ∷ bs) None
    (most_one is_octal (One is_octal Close) c bs None e (no_octal Close bs f)) (no_three bs f))
  where
    no_octal : (K : ℕ → List ℕ → Type 0) (bs : List ℕ) → is_octal (head bs) ≡ false → (n : ℕ) → One is_octal K n bs → ⊥
    no_octal K [] f = one_nil is_octal K
    no_octal K (d ∷ bs) f = one_not is_octal K d bs f

    no_three : (bs : List ℕ) → is_octal (head bs) ≡ false → (n : ℕ) → One is_up_to_three (One is_octal (One is_octal Close)) n (c ∷ bs) → ⊥
    no_three bs f zero h = h
    no_three bs f (suc n) (t, h) = no_octal (One is_octal Close) bs f n h

-- two digits, where a third is none or may not be there
octals_two : (c d : ℕ) (bs : List ℕ) → is_octal c ≡ true → is_octal d ≡ true → ((is_up_to_three c && is_octal (head bs)) ≡ false) → Most Octals (c ∷ d ∷ bs) (more 2 (close_len bs))
octals_two c d bs e f g =
    or_right (One is_octal Close) (Or (One is_octal (One is_octal Close)) (One is_up_to_three (One is_octal (One is_octal Close)))) (c ∷ d ∷ bs) (more 2 (close_len bs))
    (most_one is_octal Close c (d ∷ bs) None e (close_not d bs f))
    (or_left (One is_octal (One is_octal Close)) (One is_up_to_three (One is_octal (One is_octal Close))) (c ∷ d ∷ bs) (more 2 (close_len bs))
    (most_same (One is_octal (One is_octal Close)) (c ∷ d ∷ bs) (more 1 (more 1 (close_len bs))) (more 2 (close_len bs)) (more_more 1 1 (close_len bs))
    (most_one is_octal (One is_octal Close) c (d ∷ bs) (more 1 (close_len bs)) e (most_one is_octal Close d bs (close_len bs) f (most_close bs)))) (no_three bs g))
  where
    no_three : (bs : List ℕ) → ((is_up_to_three c && is_octal (head bs)) ≡ false) → (n : ℕ) → One is_up_to_three (One is_octal (One is_octal Close)) n (c ∷ d ∷ bs) → ⊥
    no_three bs g zero h = h
    no_three bs g (suc zero) (t, h) = h
    no_three bs g (suc (suc zero)) (t, u) = u.1
    no_three [] g (suc (suc (suc n))) (t, u) = u.1
    no_three (x ∷ bs) g (suc (suc (suc n))) (t, u) = let v = u.1.0 in let both : (is_up_to_three c && is_octal x) ≡ true = rw (t, v) refl in cc

-- three
octals_three : (c d x : ℕ) (bs : List ℕ) → is_octal c ≡ true → is_octal d ≡ true → is_up_to_three c ≡ true → is_octal x ≡ true → Most Octals (c ∷ d ∷ x ∷ bs) (more 3 (close_len bs))
octals_three c d x bs e f g i =
    or_right (One is_octal Close) (Or (One is_octal (One is_octal Close)) (One is_up_to_three (One is_octal (One is_octal Close)))) (c ∷ d ∷ x ∷ bs) (more 3 (close_len bs))
    (most_one is_octal Close c (d ∷ x ∷ bs) None e (close_not d (x ∷ bs) f))
    (or_right (One is_octal (One is_octal Close)) (One is_up_to_three (One is_octal (One is_octal Close))) (c ∷ d ∷ x ∷ bs) (more 3 (close_len bs))
    (most_one is_octal (One is_octal Close) c (d ∷ x ∷ bs) None e (most_one is_octal Close d (x ∷ bs) None f (close_not x bs i)))
    (most_same (One is_up_to_three (One is_octal (One is_octal Close))) (c ∷ d ∷ x ∷ bs) (more 1 (more 1 (more 1 (close_len bs)))) (more 3 (close_len bs))
    (more_more 1 1 (more 1 (close_len bs)) ∙ more_more 2 1 (close_len bs))
    (most_one is_up_to_three (One is_octal (One is_octal Close)) c (d ∷ x ∷ bs) (more 1 (more 1 (close_len bs))) g
    (most_one is_octal (One is_octal Close) d (x ∷ bs) (more 1 (close_len bs)) f (most_one is_octal Close x bs (close_len bs) i (most_close bs))))))

-- as many as the function takes
min_two : (k : ℕ) → min 2 (1 + (1 + k)) ≡ 2
min_two k = omega arith

min_three : (k : ℕ) → min 3 (1 + (1 + (1 + k))) ≡ 3
min_three k = omega arith

prefix_none : (p : ℕ → Bool) (bs : List ℕ) → p (head bs) ≡ false → prefix_len p bs ≡ 0
prefix_none p [] e = refl
prefix_none p (b ∷ bs) e = rw e refl

len_one : (c : ℕ) (bs : List ℕ) → is_octal c ≡ true → is_octal (head bs) ≡ false → octal_len (c ∷ bs) ≡ 1
len_one c bs e f = by_test (is_up_to_three c)
  where
    by_test : (t : Bool) → min (cond t 3 2) (prefix_len is_octal (c ∷ bs)) ≡ 1
    by_test true = rw (e, prefix_none is_octal bs f) refl
    by_test false = rw (e, prefix_none is_octal bs f) refl

len_two : (c d : ℕ) (bs : List ℕ) → is_octal c ≡ true → is_octal d ≡ true → (is_up_to_three c && is_octal (head bs)) ≡ false → octal_len (c ∷ d ∷ bs) ≡ 2
len_two c d bs e f g = by_test _ refl
  where
    by_test : (t : Bool) → is_up_to_three c ≡ t → min (cond t 3 2) (prefix_len is_octal (c ∷ d ∷ bs)) ≡ 2
    by_test true u = let h : is_octal (head bs) ≡ false = rw u at g in rw (e, f, prefix_none is_octal bs h) refl
    by_test false u = rw (e, f) (min_two (prefix_len is_octal bs))

len_three : (c d x : ℕ) (bs : List ℕ) → is_octal c ≡ true → is_octal d ≡ true → is_up_to_three c ≡ true → is_octal x ≡ true → octal_len (c ∷ d ∷ x ∷ bs) ≡ 3
len_three c d x bs e f g i = by_test _ g
  where
    by_test : (t : Bool) → t ≡ true → min (cond t 3 2) (prefix_len is_octal (c ∷ d ∷ x ∷ bs)) ≡ 3
    by_test true u = rw (e, f, i) (min_three (prefix_len is_octal bs))
    by_test false u = absurd (cc)

abbrev Taken : ℕ → List ℕ → Type 0
Taken n bs = Most Octals bs (more n (close_len (drop n bs)))

most_octals : (c : ℕ) (bs : List ℕ) → is_octal c ≡ true → Taken (octal_len (c ∷ bs)) (c ∷ bs)
most_octals c bs e = by_second bs _ refl
  where
    by_third : (d : ℕ) (bs : List ℕ) (t u : Bool) → is_up_to_three c ≡ t → is_octal (head bs) ≡ u → is_octal d ≡ true → Taken (octal_len (c ∷ d ∷ bs)) (c ∷ d ∷ bs)
    by_third d (x ∷ bs) true true g i f = subst (λ n. Taken n (c ∷ d ∷ x ∷ bs)) (sym (len_three c d x bs e f g i)) (octals_three c d x bs e f g i)
    by_third d [] true true g i f = absurd (cc)
    by_third d bs true false g i f =
        let h : (is_up_to_three c && is_octal (head bs)) ≡ false = rw (g, i) refl in
        subst (λ n. Taken n (c ∷ d ∷ bs)) (sym (len_two c d bs e f h)) (octals_two c d bs e f h)
    by_third d bs false u g i f =
        let h : (is_up_to_three c && is_octal (head bs)) ≡ false = rw g refl in
        subst (λ n. Taken n (c ∷ d ∷ bs)) (sym (len_two c d bs e f h)) (octals_two c d bs e f h)

    by_second : (bs : List ℕ) (t : Bool) → is_octal (head bs) ≡ t → Taken (octal_len (c ∷ bs)) (c ∷ bs)
    by_second (d ∷ bs) true f = by_third d bs _ _ refl refl f
    by_second [] true f = absurd (cc)
    by_second bs false f = subst (λ n. Taken n (c ∷ bs)) (sym (len_one c bs e f)) (octals_one c bs e f)

ended_is : (n : ℕ) (bs : List ℕ) → 0 < n → more n (close_len (drop n bs)) ≡ ended n bs
ended_is n bs some = rw positive (by_test (is_quote (head (drop n bs))))
  where
    positive : nat_lt 0 n ≡ true
    positive = grind (arith, nat_tests)

    by_test : (t : Bool) → more n (cond t (Some 1) None) ≡ cond t (Some (n + 1)) None
    by_test true = let e : 1 + n ≡ n + 1 = omega arith in ap Some e
    by_test false = refl

most_escape : (b : ℕ) (bs : List ℕ) → is_backslash b ≡ true → Most CharEnd (b ∷ bs) (ended (escape_in_char bs) (b ∷ bs))
most_escape b [] e = char_escape b [] None e escaped_nil
most_escape b (c ∷ cs) e = by_simple _ refl
  where
    by_octal : (t : Bool) → is_octal c ≡ t → is_simple c ≡ false → Most CharEnd (b ∷ c ∷ cs) (ended (cond t (octal_len (c ∷ cs) + 1) 0) (b ∷ c ∷ cs))
    by_octal true f g =
        most_same CharEnd (b ∷ c ∷ cs) _ _
        (more_more 1 (octal_len (c ∷ cs)) _ ∙ plus (octal_len (c ∷ cs)) ∙ ended_is (octal_len (c ∷ cs) + 1) (b ∷ c ∷ cs) (omega arith))
        (char_escape b (c ∷ cs) (more (octal_len (c ∷ cs)) (close_len (drop (octal_len (c ∷ cs)) (c ∷ cs)))) e
        (or_right (One is_simple Close) Octals (c ∷ cs) _ (one_not is_simple Close c cs g) (most_octals c cs f)))
      where
        plus : (k : ℕ) → more (1 + k) (close_len (drop k (c ∷ cs))) ≡ more (k + 1) (close_len (drop (k + 1) (b ∷ c ∷ cs)))
        plus k = rw (one-add, add-one) refl
    by_octal false f g = char_escape b (c ∷ cs) None e (escaped_none c cs g f)

    by_simple : (t : Bool) → is_simple c ≡ t → Most CharEnd (b ∷ c ∷ cs) (ended (cond t 2 (cond (is_octal c) (octal_len (c ∷ cs) + 1) 0)) (b ∷ c ∷ cs))
    by_simple true f =
        most_same CharEnd (b ∷ c ∷ cs) _ _ (more_more 1 1 (close_len cs) ∙ ended_is 2 (b ∷ c ∷ cs) (omega arith))
        (char_escape b (c ∷ cs) (more 1 (close_len cs)) e (escaped_simple c cs f))
    by_simple false f = by_octal _ refl f

abbrev pub Two : ℕ → List ℕ → Type 0
Two = One is_first_of_two (One is_continuation Close)

abbrev pub Three : ℕ → List ℕ → Type 0
Three = One is_first_of_three (One is_continuation (One is_continuation Close))

-- neither of one byte nor an escape
char_wide : (b : ℕ) (bs : List ℕ) (o : Option ℕ) → is_in_char b ≡ false → is_backslash b ≡ false → Most (Or Two Three) (b ∷ bs) o → Most CharEnd (b ∷ bs) o
char_wide b bs o e f h =
    or_left (OneUnit Close) (Escape Close) (b ∷ bs) o (or_right (One is_in_char Close) (Or Two Three) (b ∷ bs) o (one_not is_in_char Close b bs e) h) (no_escape b bs f)

two_most : (b c : ℕ) (cs : List ℕ) → is_first_of_two b ≡ true → is_continuation c ≡ true → Most (Or Two Three) (b ∷ c ∷ cs) (more 2 (close_len cs))
two_most b c cs e f =
    or_left Two Three (b ∷ c ∷ cs) (more 2 (close_len cs))
    (most_same Two (b ∷ c ∷ cs) (more 1 (more 1 (close_len cs))) (more 2 (close_len cs)) (more_more 1 1 (close_len cs))
    (most_one is_first_of_two (One is_continuation Close) b (c ∷ cs) (more 1 (close_len cs)) e (most_one is_continuation Close c cs (close_len cs) f (most_close cs))))
    (one_not is_first_of_three (One is_continuation (One is_continuation Close)) b (c ∷ cs) (two_three b e))

three_most : (b c d : ℕ) (cs : List ℕ) → is_first_of_two b ≡ false → is_first_of_three b ≡ true → is_continuation c ≡ true → is_continuation d ≡ true
    → Most (Or Two Three) (b ∷ c ∷ d ∷ cs) (more 3 (close_len cs))
three_most b c d cs n e f g =
    or_right Two Three (b ∷ c ∷ d ∷ cs) (more 3 (close_len cs)) (one_not is_first_of_two (One is_continuation Close) b (c ∷ d ∷ cs) n)
    (most_same Three (b ∷ c ∷ d ∷ cs) (more 1 (more 1 (more 1 (close_len cs)))) (more 3 (close_len cs))
    (more_more 1 1 (more 1 (close_len cs)) ∙ more_more 2 1 (close_len cs))
    (most_one is_first_of_three (One is_continuation (One is_continuation Close)) b (c ∷ d ∷ cs) (more 1 (more 1 (close_len cs))) e
    (most_one is_continuation (One is_continuation Close) c (d ∷ cs) (more 1 (close_len cs)) f (most_one is_continuation Close d cs (close_len cs) g (most_close cs)))))

-- a form that begins with two sets of bytes, where one of both does not pass
pair_not : (p q : ℕ → Bool) (K : ℕ → List ℕ → Type 0) (b c : ℕ) (cs : List ℕ) → (p b && q c) ≡ false → (n : ℕ) → One p (One q K) n (b ∷ c ∷ cs) → ⊥
pair_not p q K b c cs e zero h = h
pair_not p q K b c cs e (suc zero) (t, h) = h
pair_not p q K b c cs e (suc (suc n)) (t, h) = let u = h.0 in let both : (p b && q c) ≡ true = rw (t, u) refl in cc

three_not : (b c : ℕ) (cs : List ℕ) → (is_first_of_three b && is_continuation c && is_continuation (head cs)) ≡ false → (n : ℕ) → Three n (b ∷ c ∷ cs) → ⊥
three_not b c cs e zero h = h
three_not b c cs e (suc zero) (t, h) = h
three_not b c cs e (suc (suc zero)) (t, h) = h.1
three_not b c [] e (suc (suc (suc n))) (t, h) = h.1
three_not b c (d ∷ cs) e (suc (suc (suc n))) (t, h) =
    let u = h.0 in let v = h.1.0 in let all : (is_first_of_three b && is_continuation c && is_continuation d) ≡ true = rw (t, u, v) refl in cc

one_byte : (p : ℕ → Bool) (q : ℕ → Bool) (K : ℕ → List ℕ → Type 0) (b n : ℕ) → One p (One q K) n (b ∷ []) → ⊥
one_byte p q K b zero h = h
one_byte p q K b (suc n) (t, h) = one_nil q K n h

split : (x y : Bool) → (x && y) ≡ true → (x ≡ true) × (y ≡ true)
split true y e = (refl, e)
split false y e = absurd (cc)

most_wide : (b : ℕ) (bs : List ℕ) → Most (Or Two Three) (b ∷ bs) (ended (wide_len b bs) (b ∷ bs))
most_wide b [] = or_right Two Three (b ∷ []) None (one_byte is_first_of_two is_continuation Close b) (one_byte is_first_of_three is_continuation (One is_continuation Close) b)
most_wide b (c ∷ []) = by_two _ refl
  where
    by_two : (t : Bool) → (is_first_of_two b && is_continuation c) ≡ t → Most (Or Two Three) (b ∷ c ∷ []) (ended (cond t 2 0) (b ∷ c ∷ []))
    by_two true e = let p = split (is_first_of_two b) (is_continuation c) e in two_most b c [] p.0 p.1
    by_two false e =
        or_right Two Three (b ∷ c ∷ []) None (pair_not is_first_of_two is_continuation Close b c [] e) (short b c)
      where
        short : (b c n : ℕ) → Three n (b ∷ c ∷ []) → ⊥
        short b c zero h = h
        short b c (suc zero) (t, h) = h
        short b c (suc (suc n)) (t, h) = one_nil is_continuation Close n h.1
most_wide b (c ∷ d ∷ cs) = by_two _ refl
  where
    by_three : (t : Bool) → (is_first_of_three b && is_continuation c && is_continuation d) ≡ t → (is_first_of_two b && is_continuation c) ≡ false
        → Most (Or Two Three) (b ∷ c ∷ d ∷ cs) (ended (cond t 3 0) (b ∷ c ∷ d ∷ cs))
    by_three true e n =
        let p = split (is_first_of_three b && is_continuation c) (is_continuation d) e in
        let q = split (is_first_of_three b) (is_continuation c) p.0 in
        most_same (Or Two Three) (b ∷ c ∷ d ∷ cs) _ _ (ended_is 3 (b ∷ c ∷ d ∷ cs) (omega arith)) (three_most b c d cs (not_two b q.0) q.0 q.1 p.1)
      where
        not_two : (b : ℕ) → is_first_of_three b ≡ true → is_first_of_two b ≡ false
        not_two b e = by_test _ refl
          where
            by_test : (t : Bool) → is_first_of_two b ≡ t → is_first_of_two b ≡ false
            by_test true f = let g = two_three b f in absurd (cc)
            by_test false f = f
    by_three false e n = or_right Two Three (b ∷ c ∷ d ∷ cs) None (pair_not is_first_of_two is_continuation Close b c (d ∷ cs) n) (three_not b c (d ∷ cs) e)

    by_two : (t : Bool) → (is_first_of_two b && is_continuation c) ≡ t
        → Most (Or Two Three) (b ∷ c ∷ d ∷ cs) (ended (cond t 2 (cond (is_first_of_three b && is_continuation c && is_continuation d) 3 0)) (b ∷ c ∷ d ∷ cs))
    by_two true e =
        let p = split (is_first_of_two b) (is_continuation c) e in
        most_same (Or Two Three) (b ∷ c ∷ d ∷ cs) _ _ (ended_is 2 (b ∷ c ∷ d ∷ cs) (omega arith)) (two_most b c (d ∷ cs) p.0 p.1)
    by_two false e = by_three _ refl e

-- the function's length, and the closing quote behind it
pub most_character : (bs : List ℕ) → Most CharEnd bs (character bs)
most_character [] =
    or_right (OneUnit Close) (Escape Close) [] None
    (or_right (One is_in_char Close) (Or Two Three) [] None (one_nil is_in_char Close) (or_right Two Three [] None (one_nil is_first_of_two _) (one_nil is_first_of_three _)))
    (one_nil is_backslash Escaped)
most_character (b ∷ bs) = by_char _ refl
  where
    by_backslash : (t : Bool) → is_backslash b ≡ t → is_in_char b ≡ false → Most CharEnd (b ∷ bs) (ended (cond t (escape_in_char bs) (wide_len b bs)) (b ∷ bs))
    by_backslash true e f = most_escape b bs e
    by_backslash false e f = char_wide b bs (ended (wide_len b bs) (b ∷ bs)) f e (most_wide b bs)

    by_char : (t : Bool) → is_in_char b ≡ t → Most CharEnd (b ∷ bs) (ended (cond t 1 (cond (is_backslash b) (escape_in_char bs) (wide_len b bs))) (b ∷ bs))
    by_char true e = most_same CharEnd (b ∷ bs) _ _ (ended_is 1 (b ∷ bs) (omega arith)) (char_one b bs e)
    by_char false e = by_backslash _ refl e
