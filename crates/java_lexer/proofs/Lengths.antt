-- Lengths that may be there.
use Rattle.std.proofs.Common.{◌≡◌, ◌<◌, ℕ, ◌+◌, Bool, true, false, ◌&&◌, ◌||◌, List, [], ◌∷◌, length, drop, Option, Some, None, refl, ap, ◌∙◌, arith}
use Rattle.java_lexer.specs.Bytes.{head, is_double_quote, is_in_text, is_backslash, is_simple, is_octal}
use Rattle.java_lexer.specs.Scan.{more, quoted, text_char}

pub more_more : (n m : ℕ) (o : Option ℕ) → more n (more m o) ≡ more (n + m) o
more_more n m None = refl
more_more n m (Some k) = let e : k + m + n ≡ k + (n + m) = omega arith in ap Some e

-- one character of a string
pub quoted_more : (bs : List ℕ) → is_double_quote (head bs) ≡ false → 0 < text_char bs → quoted bs ≡ more (text_char bs) (quoted (drop (text_char bs) bs))
quoted_more [] plain some = absurd (omega arith)
quoted_more (b ∷ []) plain some = by_test _ refl
  where
    by_test : (t : Bool) → is_in_text b ≡ t → quoted (b ∷ []) ≡ more (text_char (b ∷ [])) (quoted (drop (text_char (b ∷ [])) (b ∷ [])))
    by_test true e = rw (e, plain) refl
    by_test false e = let none : 0 < text_char (b ∷ []) = some in let bad : 0 < 0 = rw e at none in absurd (omega arith)
quoted_more (b ∷ c ∷ bs) plain some = by_test _ _ refl refl
  where
    by_test : (t u : Bool) → is_in_text b ≡ t → (is_backslash b && (is_simple c || is_octal c)) ≡ u
        → quoted (b ∷ c ∷ bs) ≡ more (text_char (b ∷ c ∷ bs)) (quoted (drop (text_char (b ∷ c ∷ bs)) (b ∷ c ∷ bs)))
    by_test true u e f = rw (e, plain) refl
    by_test false true e f = rw (e, f, plain) refl
    by_test false false e f = let none : 0 < text_char (b ∷ c ∷ bs) = some in let bad : 0 < 0 = rw (e, f) at none in absurd (omega arith)

-- no character
pub quoted_none : (bs : List ℕ) → is_double_quote (head bs) ≡ false → text_char bs ≡ 0 → quoted bs ≡ None
quoted_none [] plain none = refl
quoted_none (b ∷ []) plain none = rw plain refl
quoted_none (b ∷ c ∷ bs) plain none = by_test _ _ refl refl
  where
    by_test : (t u : Bool) → is_in_text b ≡ t → (is_backslash b && (is_simple c || is_octal c)) ≡ u → quoted (b ∷ c ∷ bs) ≡ None
    by_test true u e f = let one : text_char (b ∷ c ∷ bs) ≡ 1 = rw e refl in absurd (omega arith)
    by_test false true e f = let two : text_char (b ∷ c ∷ bs) ≡ 2 = rw (e, f) refl in absurd (omega arith)
    by_test false false e f = rw (e, f, plain) refl

-- the closing quote
pub quoted_here : (bs : List ℕ) → is_double_quote (head bs) ≡ true → (quoted bs ≡ Some 1) × (0 < length bs)
quoted_here [] is = absurd (cc)
quoted_here (b ∷ []) is = (rw is refl, omega arith)
quoted_here (b ∷ c ∷ bs) is = (rw is refl, omega arith)

-- one turn of the loop over a string
pub quoted_turn : (text rest : List ℕ) (at : ℕ) → quoted text ≡ more at (quoted rest) → is_double_quote (head rest) ≡ false → 0 < text_char rest
    → quoted text ≡ more (at + text_char rest) (quoted (drop (text_char rest) rest))
quoted_turn text rest at e plain some = e ∙ ap (more at) (quoted_more rest plain some) ∙ more_more at (text_char rest) (quoted (drop (text_char rest) rest))
