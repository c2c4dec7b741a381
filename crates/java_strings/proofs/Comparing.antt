-- Steps of loops over units.
use Rattle.std.proofs.Common.{◌≡◌, ◌≢◌, ℕ, ◌+◌, ◌-◌, ◌*◌, ◌%◌, ◌^◌, ◌<◌, ◌≤◌, List, length, get_or, take, drop, refl, sym, ap, ◌∙◌, arith, add-one, eq-eqb, ne_eqb}
use Rattle.std.proofs.lemmas.Int.{ints, wrapping_add_onto, wrapping_mul_is, wrapping_neg_is, int_wrap-sub_right, to_z-of_z, SFits-int_wrap, int_wrap-add_left, fits_signed_from_abs}
use Rattle.std.proofs.Math.Seq.{drop-cons, take-length}
use Rattle.std.proofs.Math.ListN.{drop_of_length-le}
use Rattle.std.proofs.lemmas.List.{length-drop}
use Rattle.std.specs.Prelude.{ℤ, pos, FitsSigned, neg_ℤ, ◌+ℤ◌, ◌-ℤ◌, ◌*ℤ◌}
use Rattle.std.specs.Int.{w32, cast_signed, cast_unsigned, int_wrap, int_wrapping_neg}
use Rattle.core_meaning.specs.Texts.{hash_from, difference, length_of}

pub low_length : (n : ℕ) → cast_signed w32 (n % 2 ^ 32) ≡ int_wrap w32 (pos n)
unfolding int_wrap
low_length n = refl

zero_less : (z : ℤ) → pos 0 -ℤ z ≡ neg_ℤ z
zero_less z = omega (arith, ints)

pub negative_wraps : (z r s : ℤ) → r ≡ int_wrap w32 z → s ≡ int_wrapping_neg w32 (cast_signed w32 (cast_unsigned w32 r))
    → cast_signed w32 (cast_unsigned w32 s) ≡ int_wrap w32 (neg_ℤ z)
negative_wraps z r s e f =
    let fits = SFits-int_wrap w32 z in
    let kept : cast_signed w32 (cast_unsigned w32 r) ≡ int_wrap w32 z = rw e (to_z-of_z w32 _ fits) in
    let wraps : s ≡ int_wrap w32 (neg_ℤ z) =
    f ∙ ap (int_wrapping_neg w32) kept ∙ wrapping_neg_is w32 _ fits ∙ ap (int_wrap w32) (sym (zero_less (int_wrap w32 z)))
    ∙ int_wrap-sub_right w32 (pos 0) z ∙ ap (int_wrap w32) (zero_less z) in
    rw wraps (to_z-of_z w32 _ (SFits-int_wrap w32 (neg_ℤ z)))

-- a hash with one more unit, as the code's operations wrap it
pub hash_wraps : (h : ℤ) (u : ℕ) → FitsSigned w32 h → u < 2 ^ 16
    → cast_signed w32 ((cast_unsigned w32 h * 31 % 2 ^ 32 + u) % 2 ^ 32) ≡ int_wrap w32 (h *ℤ pos 31 +ℤ pos u)
hash_wraps h u f small =
    wrapping_add_onto w32 (cast_unsigned w32 h * 31 % 2 ^ 32) (pos u) (omega arith) (fits_signed_from_abs w32 (pos u) (omega arith))
    ∙ ap (λ z. int_wrap w32 (z +ℤ pos u)) (wrapping_mul_is w32 h (pos 31) f (fits_signed_from_abs w32 (pos 31) (omega arith)))
    ∙ int_wrap-add_left w32 (h *ℤ pos 31) (pos u)

pub hash_step : (h : ℤ) (i : ℕ) (cs : List ℕ) → i < length cs → hash_from h (drop i cs) ≡ hash_from (int_wrap w32 (h *ℤ pos 31 +ℤ pos (get_or cs i 0))) (drop (i + 1) cs)
hash_step h i cs within = rw (add-one, drop-cons cs i 0 within)

pub hash_end : (h : ℤ) (i : ℕ) (cs : List ℕ) → length cs ≤ i → hash_from h (drop i cs) ≡ h
hash_end h i cs past = rw (drop_of_length-le cs past)

pub differ_at : (i : ℕ) (xs ys : List ℕ) → i < length xs → i < length ys → get_or xs i 0 ≢ get_or ys i 0
    → difference (drop i xs) (drop i ys) ≡ pos (get_or xs i 0) -ℤ pos (get_or ys i 0)
differ_at i xs ys in_xs in_ys apart = rw (drop-cons xs i 0 in_xs, drop-cons ys i 0 in_ys, ne_eqb (get_or xs i 0) (get_or ys i 0) apart)

pub same_at : (i : ℕ) (xs ys : List ℕ) → i < length xs → i < length ys → get_or xs i 0 ≡ get_or ys i 0
    → difference (drop i xs) (drop i ys) ≡ difference (drop (i + 1) xs) (drop (i + 1) ys)
same_at i xs ys in_xs in_ys same = rw (add-one, drop-cons xs i 0 in_xs, drop-cons ys i 0 in_ys, eq-eqb (get_or xs i 0) (get_or ys i 0) same)

pub second_ends : (i : ℕ) (xs ys : List ℕ) (r : ℤ) → i < length xs → length ys ≤ i → r ≡ length_of (take (length xs - i) (drop i xs))
    → cast_signed w32 (cast_unsigned w32 r) ≡ int_wrap w32 (difference (drop i xs) (drop i ys))
second_ends i xs ys r in_xs past e =
    let rest : take (length xs - i) (drop i xs) ≡ drop i xs = rw (← length-drop i xs, take-length (drop i xs)) in
    let ends : difference (drop i xs) (drop i ys) ≡ pos (length (drop i xs)) = rw (drop_of_length-le ys past, drop-cons xs i 0 in_xs) in
    let wraps : r ≡ int_wrap w32 (difference (drop i xs) (drop i ys)) = e ∙ ap length_of rest ∙ ap (int_wrap w32) (sym ends) in
    rw wraps (to_z-of_z w32 _ (SFits-int_wrap w32 (difference (drop i xs) (drop i ys))))

pub first_ends : (i : ℕ) (xs ys : List ℕ) → length xs ≤ i → difference (drop i xs) (drop i ys) ≡ neg_ℤ (pos (length (drop i ys)))
first_ends i xs ys past = rw (drop_of_length-le xs past)
