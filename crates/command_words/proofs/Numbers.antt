-- Decimal numbers without a leading zero.
use Rattle.std.proofs.Common.{◌≡◌, ◌≢◌, ℕ, zero, suc, ◌<◌, ◌^◌, List, [], ◌∷◌, length, get_or, Result, Ok, refl, sym, ◌∙◌, ap, subst, ◌⊎◌, inl, inr, arith}
use Rattle.std.specs.Fmt.{decimal}
use Rattle.std.specs.Result.{OkIff}
use Rattle.std.specs.Str.Parse.{AllDigits, digits_value, ParsesUnsigned}
use Rattle.std.proofs.lemmas.Str.Parse.{IsNumeralModel, parse_plain, digit_at}
use Rattle.std.proofs.lemmas.Fmt.{decimal-digits_value, decimal_is_IsNumeral, decimal_digit, first_decimal, parse-decimal}
use Rattle.command_words.specs.Names.{IsNumber}
use Rattle.command_words.specs.Scan.{BeginsNumber}

own : IsNumeralModel (AllDigits 10) (digits_value 10)
own = record { to = λ ds d. d; from = λ ds d. d; same = λ ds d. refl }

pub zero_is : (w : List ℕ) → w ≡ 48 ∷ [] → IsNumber w 0
zero_is w e = (e ∙ sym (decimal_digit 0 (omega arith)), omega arith)

pub written : {E : Type 0} (w : List ℕ) (n : ℕ) (r : Result ℕ E) → BeginsNumber w → ParsesUnsigned 64 10 w r → r ≡ Ok n → n < 10 ^ 10 → IsNumber w n
written w n r b h e small =
    let plain : get_or w 0 0 ≢ 43 = λ f. absurd (omega (arith, b.0)) in
    let ok = subst (λ r. OkIff r (AllDigits 10 w × (0 < length w) × (digits_value 10 w < 2 ^ 64)) (digits_value 10 w)) e (parse_plain own 64 w r h plain) in
    let is : decimal (digits_value 10 w) ≡ w = decimal-digits_value own w ok.0.0 ok.0.1 (λ z. absurd (omega (arith, b.0))) ok.0.2 in
    let same : w ≡ decimal n = sym is ∙ ap decimal (sym ok.1) in
    (same, small)

pub begins : (w : List ℕ) (n : ℕ) → IsNumber w n → (w ≡ 48 ∷ []) ⊎ BeginsNumber w
begins w zero is = inl (is.0 ∙ decimal_digit 0 (omega arith))
begins w (suc n) is =
    let digits = (decimal_is_IsNumeral (suc n) (omega (arith, is.1))).0 in
    let first = first_decimal (suc n) (omega arith) (omega (arith, is.1)) in
    let last = digit_at (decimal (suc n)) 0 digits.1 digits.0 in
    inr (subst BeginsNumber (sym is.0) (first, omega (arith, last)))

pub no_number : (w : List ℕ) (n : ℕ) → (w ≡ 48 ∷ [] → ⊥) → (BeginsNumber w → ⊥) → IsNumber w n → ⊥
no_number w n a b is = elim (begins w n is) [ inl e ↦ a e | inr e ↦ b e ]

pub parsed : {E : Type 0} (w : List ℕ) (n : ℕ) (r : Result ℕ E) → IsNumber w n → ParsesUnsigned 64 10 w r → r ≡ Ok n
parsed w n r is h = parse-decimal 64 n w r (omega (arith, is.1)) (omega (arith, is.1)) is.0 h

pub zero_alone : (w : List ℕ) (n : ℕ) → IsNumber w 0 → IsNumber w n → 0 < n → ⊥
zero_alone w zero z is less = absurd (omega (arith, less))
zero_alone w (suc n) z is less =
    let first = first_decimal (suc n) (omega arith) (omega (arith, is.1)) in
    let e : decimal (suc n) ≡ 48 ∷ [] = sym is.0 ∙ z.0 ∙ decimal_digit 0 (omega arith) in
    absurd (omega (arith, first, ap (λ (x : List ℕ). get_or x 0 0) e))
