-- Forms look at the bytes that they tell of, and at no others.
use Rattle.std.proofs.Common.{◌≡◌, ◌≤◌, ℕ, zero, suc, Bool, true, false, ◌&&◌, List, [], ◌∷◌, ◌++◌, length, inl, inr, arith}
use Rattle.java_lexer.specs.declared.piece.Class.{Class}
use Rattle.java_lexer.specs.declared.piece.Class.TheVariants as class
use Rattle.java_lexer.specs.Bytes.{in_line, is_blank, is_start, is_part, is_digit, is_nonzero, is_zero, is_octal, is_past_octal, is_hex, is_up_to_three, is_x, is_long, is_exponent, is_sign, is_float, is_dot, is_slash, is_star, is_backslash, is_quote, is_double_quote, is_simple, is_in_char, is_first_of_two, is_first_of_three, is_continuation}
use Rattle.java_lexer.specs.Forms.{Nothing, One, Many, Or, Maybe}
use Rattle.java_lexer.specs.Pieces.{Closes, IsInteger, FloatEnd, Exponent, Fraction, IsFloating, Escape, OneUnit, Quoted, IsOperator, IsFront}

-- a form holds of n bytes of a text that has so many, whatever stands behind them
pub record Local (K : ℕ → List ℕ → Type 0) : Type 0 where
  pub fits : (n : ℕ) (bs : List ℕ) → K n bs → n ≤ length bs
  pub stays : (n : ℕ) (us xs ys : List ℕ) → n ≤ length us → K n (us ++ xs) → K n (us ++ ys)

local_nothing : Local Nothing
local_nothing = record { fits = λ n bs e. omega arith; stays = λ n us xs ys le e. e }

local_one : (p : ℕ → Bool) (K : ℕ → List ℕ → Type 0) → Local K → Local (One p K)
local_one p K l = record { fits = fits; stays = stays }
  where
    fits : (n : ℕ) (bs : List ℕ) → One p K n bs → n ≤ length bs
    fits zero bs h = omega arith
    fits (suc n) [] h = absurd h
    fits (suc n) (b ∷ bs) (t, h) = let le = l.fits n bs h in omega arith

    stays : (n : ℕ) (us xs ys : List ℕ) → n ≤ length us → One p K n (us ++ xs) → One p K n (us ++ ys)
    stays zero us xs ys le h = absurd h
    stays (suc n) [] xs ys le h = absurd (omega arith)
    stays (suc n) (u ∷ us) xs ys le (t, h) = (t, l.stays n us xs ys (omega arith) h)

local_many : (p : ℕ → Bool) (K : ℕ → List ℕ → Type 0) → Local K → Local (Many p K)
local_many p K l = record { fits = fits; stays = stays }
  where
    fits : (n : ℕ) (bs : List ℕ) → Many p K n bs → n ≤ length bs
    fits zero bs h = omega arith
    fits (suc n) [] h = l.fits (suc n) [] h
    fits (suc n) (b ∷ bs) (inl h) = l.fits (suc n) (b ∷ bs) h
    fits (suc n) (b ∷ bs) (inr (t, h)) = let le = fits n bs h in omega arith

    stays : (n : ℕ) (us xs ys : List ℕ) → n ≤ length us → Many p K n (us ++ xs) → Many p K n (us ++ ys)
    stays zero us xs ys le h = l.stays zero us xs ys le h
    stays (suc n) [] xs ys le h = absurd (omega arith)
    stays (suc n) (u ∷ us) xs ys le (inl h) = inl (l.stays (suc n) (u ∷ us) xs ys le h)
    stays (suc n) (u ∷ us) xs ys le (inr (t, h)) = inr (t, stays n us xs ys (omega arith) h)

local_or : (A B : ℕ → List ℕ → Type 0) → Local A → Local B → Local (Or A B)
local_or A B a b = record { fits = fits; stays = stays }
  where
    fits : (n : ℕ) (bs : List ℕ) → Or A B n bs → n ≤ length bs
    fits n bs (inl h) = a.fits n bs h
    fits n bs (inr h) = b.fits n bs h

    stays : (n : ℕ) (us xs ys : List ℕ) → n ≤ length us → Or A B n (us ++ xs) → Or A B n (us ++ ys)
    stays n us xs ys le (inl h) = inl (a.stays n us xs ys le h)
    stays n us xs ys le (inr h) = inr (b.stays n us xs ys le h)

local_maybe : (p : ℕ → Bool) (K : ℕ → List ℕ → Type 0) → Local K → Local (Maybe p K)
local_maybe p K l = local_or K (One p K) l (local_one p K l)

and_false : (x : Bool) → (x && false) ≡ true → ⊥
and_false true e = cc
and_false false e = cc

local_closes : Local Closes
local_closes = record { fits = fits; stays = stays }
  where
    fits : (n : ℕ) (bs : List ℕ) → Closes n bs → n ≤ length bs
    fits zero bs h = absurd h
    fits (suc n) [] h = absurd h
    fits (suc n) (b ∷ []) (inl h) = absurd (and_false (is_star b) h.0)
    fits (suc n) (b ∷ c ∷ bs) (inl h) = omega arith
    fits (suc n) (b ∷ bs) (inr h) = let le = fits n bs h.1 in omega arith

    stays : (n : ℕ) (us xs ys : List ℕ) → n ≤ length us → Closes n (us ++ xs) → Closes n (us ++ ys)
    stays zero us xs ys le h = absurd h
    stays (suc n) [] xs ys le h = absurd (omega arith)
    stays (suc n) (u ∷ []) xs ys le (inl h) = absurd (omega arith)
    stays (suc zero) (u ∷ []) xs ys le (inr h) = absurd h.1
    stays (suc (suc n)) (u ∷ []) xs ys le (inr h) = absurd (omega arith)
    stays (suc n) (u ∷ v ∷ us) xs ys le (inl h) = inl h
    stays (suc n) (u ∷ v ∷ us) xs ys le (inr h) = inr (h.0, stays n (v ∷ us) xs ys (omega arith) h.1)

local_quoted : Local Quoted
local_quoted = record { fits = fits; stays = stays }
  where
    fits : (n : ℕ) (bs : List ℕ) → Quoted n bs → n ≤ length bs
    fits zero bs h = absurd h
    fits (suc n) [] h = absurd h
    fits (suc zero) (b ∷ bs) h = omega arith
    fits (suc (suc n)) (b ∷ []) h = absurd h
    fits (suc (suc n)) (b ∷ c ∷ bs) (inl h) = let le = fits (suc n) (c ∷ bs) h.1 in omega arith
    fits (suc (suc n)) (b ∷ c ∷ bs) (inr h) = let le = fits n bs h.2 in omega arith

    stays : (n : ℕ) (us xs ys : List ℕ) → n ≤ length us → Quoted n (us ++ xs) → Quoted n (us ++ ys)
    stays zero us xs ys le h = absurd h
    stays (suc n) [] xs ys le h = absurd (omega arith)
    stays (suc zero) (b ∷ us) xs ys le h = h
    stays (suc (suc n)) (b ∷ []) xs ys le h = absurd (omega arith)
    stays (suc (suc n)) (b ∷ c ∷ us) xs ys le (inl h) = inl (h.0, stays (suc n) (c ∷ us) xs ys (omega arith) h.1)
    stays (suc (suc n)) (b ∷ c ∷ us) xs ys le (inr h) = inr (h.0, h.1, stays n us xs ys (omega arith) h.2)

local_operator : Local IsOperator
local_operator = record { fits = fits; stays = stays }
  where
    fits : (n : ℕ) (bs : List ℕ) → IsOperator n bs → n ≤ length bs
    fits zero bs h = absurd h
    fits (suc zero) [] h = absurd h
    fits (suc zero) (b ∷ bs) h = omega arith
    fits (suc (suc zero)) [] h = absurd h
    fits (suc (suc zero)) (b ∷ []) h = absurd h
    fits (suc (suc zero)) (b ∷ c ∷ bs) h = omega arith
    fits (suc (suc (suc zero))) [] h = absurd h
    fits (suc (suc (suc zero))) (b ∷ []) h = absurd h
    fits (suc (suc (suc zero))) (b ∷ c ∷ []) h = absurd h
    fits (suc (suc (suc zero))) (b ∷ c ∷ d ∷ bs) h = omega arith
    fits (suc (suc (suc (suc n)))) bs h = absurd h

    stays : (n : ℕ) (us xs ys : List ℕ) → n ≤ length us → IsOperator n (us ++ xs) → IsOperator n (us ++ ys)
    stays zero us xs ys le h = absurd h
    stays (suc zero) [] xs ys le h = absurd (omega arith)
    stays (suc zero) (b ∷ us) xs ys le h = h
    stays (suc (suc zero)) [] xs ys le h = absurd (omega arith)
    stays (suc (suc zero)) (b ∷ []) xs ys le h = absurd (omega arith)
    stays (suc (suc zero)) (b ∷ c ∷ us) xs ys le h = h
    stays (suc (suc (suc zero))) [] xs ys le h = absurd (omega arith)
    stays (suc (suc (suc zero))) (b ∷ []) xs ys le h = absurd (omega arith)
    stays (suc (suc (suc zero))) (b ∷ c ∷ []) xs ys le h = absurd (omega arith)
    stays (suc (suc (suc zero))) (b ∷ c ∷ d ∷ us) xs ys le h = h
    stays (suc (suc (suc (suc n)))) us xs ys le h = absurd h

abbrev Long : ℕ → List ℕ → Type 0
Long = Maybe is_long Nothing

local_long : Local Long
local_long = local_maybe is_long Nothing local_nothing

local_float_end : Local FloatEnd
local_float_end = local_maybe is_float Nothing local_nothing

abbrev FloatDigits : ℕ → List ℕ → Type 0
FloatDigits = One is_digit (Many is_digit FloatEnd)

local_exponent : Local Exponent
local_exponent =
    local_one is_exponent (Maybe is_sign FloatDigits) (local_maybe is_sign FloatDigits (local_one is_digit (Many is_digit FloatEnd) (local_many is_digit FloatEnd local_float_end)))

local_fraction : Local Fraction
local_fraction = local_many is_digit (Or FloatEnd Exponent) (local_or FloatEnd Exponent local_float_end local_exponent)

local_integer : Local IsInteger
local_integer =
    local_or (One is_nonzero (Many is_digit Long)) (Or (One is_zero (Many is_octal Long)) (One is_zero (One is_x (One is_hex (Many is_hex Long)))))
    (local_one is_nonzero (Many is_digit Long) (local_many is_digit Long local_long))
    (local_or (One is_zero (Many is_octal Long)) (One is_zero (One is_x (One is_hex (Many is_hex Long))))
    (local_one is_zero (Many is_octal Long) (local_many is_octal Long local_long))
    (local_one is_zero (One is_x (One is_hex (Many is_hex Long))) (local_one is_x (One is_hex (Many is_hex Long)) (local_one is_hex (Many is_hex Long) (local_many is_hex Long local_long)))))

abbrev After : ℕ → List ℕ → Type 0
After = Or (One is_dot Fraction) (Or Exponent (One is_float Nothing))

local_floating : Local IsFloating
local_floating =
    local_or (One is_digit (Many is_digit After)) (One is_dot (One is_digit Fraction))
    (local_one is_digit (Many is_digit After) (local_many is_digit After (local_or (One is_dot Fraction) (Or Exponent (One is_float Nothing))
    (local_one is_dot Fraction local_fraction) (local_or Exponent (One is_float Nothing) local_exponent (local_one is_float Nothing local_nothing)))))
    (local_one is_dot (One is_digit Fraction) (local_one is_digit Fraction local_fraction))

abbrev Close : ℕ → List ℕ → Type 0
Close = One is_quote Nothing

local_close : Local Close
local_close = local_one is_quote Nothing local_nothing

local_unit : Local (OneUnit Close)
local_unit =
    local_or (One is_in_char Close) (Or (One is_first_of_two (One is_continuation Close)) (One is_first_of_three (One is_continuation (One is_continuation Close))))
    (local_one is_in_char Close local_close)
    (local_or (One is_first_of_two (One is_continuation Close)) (One is_first_of_three (One is_continuation (One is_continuation Close)))
    (local_one is_first_of_two (One is_continuation Close) (local_one is_continuation Close local_close))
    (local_one is_first_of_three (One is_continuation (One is_continuation Close)) (local_one is_continuation (One is_continuation Close) (local_one is_continuation Close local_close))))

local_octal_two : Local (One is_octal (One is_octal Close))
local_octal_two = local_one is_octal (One is_octal Close) (local_one is_octal Close local_close)

local_escape : Local (Escape Close)
local_escape =
    local_one is_backslash _
    (local_or (One is_simple Close) (Or (One is_octal Close) (Or (One is_octal (One is_octal Close)) (One is_up_to_three (One is_octal (One is_octal Close))))) (local_one is_simple Close local_close)
    (local_or (One is_octal Close) (Or (One is_octal (One is_octal Close)) (One is_up_to_three (One is_octal (One is_octal Close)))) (local_one is_octal Close local_close)
    (local_or (One is_octal (One is_octal Close)) (One is_up_to_three (One is_octal (One is_octal Close))) local_octal_two (local_one is_up_to_three (One is_octal (One is_octal Close)) local_octal_two))))

pub local_front : (c : Class) → Local (IsFront c)
local_front class.Blank = local_one is_blank Nothing local_nothing
local_front class.LineComment = local_one is_slash (One is_slash (Many in_line Nothing)) (local_one is_slash (Many in_line Nothing) (local_many in_line Nothing local_nothing))
local_front class.BlockComment = local_one is_slash (One is_star Closes) (local_one is_star Closes local_closes)
local_front class.Word = local_one is_start (Many is_part Nothing) (local_many is_part Nothing local_nothing)
local_front class.Integer = local_integer
local_front class.Floating = local_floating
local_front class.Character = local_one is_quote (Or (OneUnit Close) (Escape Close)) (local_or (OneUnit Close) (Escape Close) local_unit local_escape)
local_front class.Text = local_one is_double_quote Quoted local_quoted
local_front class.Operator = local_operator

abbrev pub BadOctal : ℕ → List ℕ → Type 0
BadOctal = One is_zero (Many is_octal (One is_past_octal Nothing))

pub local_bad_octal : Local BadOctal
local_bad_octal = local_one is_zero (Many is_octal (One is_past_octal Nothing)) (local_many is_octal (One is_past_octal Nothing) (local_one is_past_octal Nothing local_nothing))
