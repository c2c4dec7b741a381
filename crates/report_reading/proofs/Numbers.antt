-- Numbers without a leading zero.
use Rattle.std.proofs.Common.{◌≡◌, ℕ, ◌<◌, ◌≤◌, ◌^◌, Bool, true, false, cond, List, [], ◌∷◌, Option, Some, None, Result, Ok, refl, sym, ap, ◌∙◌, subst, leb, arith}
use Rattle.std.specs.Fmt.{decimal}
use Rattle.std.specs.List.{list_all}
use Rattle.std.specs.Char.{is_ascii_digit}
use Rattle.std.specs.Str.{bytes_eq, all_ascii_digits}
use Rattle.std.specs.Str.Parse.{digits_value}
use Rattle.std.proofs.lemmas.Bool.{and_parts, leb-true, le-leb}
use Rattle.std.proofs.lemmas.Fmt.{decimal_is_IsNumeral, digits_decimal}
use Rattle.std.proofs.lemmas.Slice.Eq.{bytes_eq-Decides}
use Rattle.std.proofs.lemmas.Str.Parse.{tells_all_ascii_digits, numerals_by_value}
use Rattle.report_reading.specs.Reading.{number_of}

-- a test that held
pub cond_some : {X : Type 0} (b : Bool) (x y : X) → cond b (Some x) None ≡ Some y → (b ≡ true) × (x ≡ y)
cond_some true x y e = (refl, cc)
cond_some false x y e = absurd cc

pub none_by : {X : Type 0} (o : Option X) → ((x : X) → o ≡ Some x → ⊥) → o ≡ None
none_by None h = refl
none_by (Some x) h = absurd (h x refl)

pub number_takes : (most : ℕ) (w : List ℕ) (n : ℕ) → number_of most w ≡ Some n → (w ≡ decimal n) × (n ≤ most)
unfolding number_of
number_takes most w n e =
    let v = digits_value 10 w in
    let g = cond_some _ v n e in
    let both = and_parts (leb v most) (bytes_eq w (decimal v)) g.0 in
    let same : w ≡ decimal v = (bytes_eq-Decides w (decimal v)).0 both.1 in
    (same ∙ ap decimal g.1, subst (λ (k : ℕ). k ≤ most) g.1 (leb-true v most both.0))

pub number_again : (most n : ℕ) → n ≤ most → most < 2 ^ 64 → number_of most (decimal n) ≡ Some n
unfolding number_of
number_again most n le lt =
    let v : digits_value 10 (decimal n) ≡ n = (decimal_is_IsNumeral n (omega arith)).1 in
    let a : leb n most ≡ true = le-leb n most le in
    let b : bytes_eq (decimal n) (decimal n) ≡ true = (bytes_eq-Decides (decimal n) (decimal n)).1 refl in
    rw (v, a, b) refl

digits_by_list : (ds : List ℕ) → all_ascii_digits ds ≡ true → list_all is_ascii_digit ds ≡ true
digits_by_list [] e = refl
digits_by_list (d ∷ ds) e =
    let both = and_parts (is_ascii_digit d) (all_ascii_digits ds) e in
    rw (both.0, digits_by_list ds both.1) refl

pub number_digits : (n : ℕ) → n < 2 ^ 64 → list_all is_ascii_digit (decimal n) ≡ true
number_digits n lt = digits_by_list (decimal n) (digits_decimal (numerals_by_value (λ ds. all_ascii_digits ds ≡ true) tells_all_ascii_digits) n lt)

-- what is no number, where o is what the word writes
pub no_number : (most : ℕ) (w : List ℕ) (o : Option ℕ) → most < 2 ^ 64 → ((n : ℕ) → n < 2 ^ 64 → w ≡ decimal n → o ≡ Some n) → ((n : ℕ) → n ≤ most → w ≡ decimal n → o ≡ Some n → ⊥) → number_of most w ≡ None
no_number most w o lt is h = none_by _ (λ n e.
    let t = number_takes most w n e in
    h n t.1 t.0 (is n (omega (arith, t.1)) t.0))
