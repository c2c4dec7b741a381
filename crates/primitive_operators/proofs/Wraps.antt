-- What is left of numbers: in a smaller type, of a quotient, and one step further.
use Rattle.std.proofs.Common.{◌≡◌, ℕ, ◌+◌, ◌-◌, ◌%◌, ◌^◌, ◌≤◌, suc, zero, refl, ap, ap₂, ◌∙◌, arith}
use Rattle.std.proofs.Math.Nat.{div-le_self}
use Rattle.std.proofs.lemmas.Int.{wrapping_add_is, wrapping_sub_is, fits_signed_from_abs, to_z-of_z, SFits-int_wrap}
use Rattle.std.specs.Prelude.{ℤ, pos, negsuc, neg_ℤ, ◌+ℤ◌, ◌-ℤ◌, FitsSigned, int_div, unsigned_abs}
use Rattle.std.specs.Int.{w32, w64, cast_signed, cast_unsigned, int_wrap, int_wrapping_div}
use Rattle.std.specs.Int.Signed.{nat_abs-le}

pub low_bits : (z : ℤ) → FitsSigned w64 z → cast_signed w32 (cast_unsigned w64 z % 2 ^ 32) ≡ int_wrap w32 z
unfolding int_wrap
low_bits (pos n) f = refl
low_bits (negsuc n) f = ap (cast_signed w32) (omega (arith, f.sfits))

-- ---- quotients

abs_neg : (n : ℕ) → unsigned_abs (neg_ℤ (pos n)) ≡ n
abs_neg zero = refl
abs_neg (suc n) = refl

abs_quotient : (x y : ℤ) → unsigned_abs (int_div x y) ≤ unsigned_abs x
abs_quotient (pos a) (pos b) = div-le_self a b
abs_quotient (pos a) (negsuc b) = rw abs_neg (div-le_self a (suc b))
abs_quotient (negsuc a) (pos b) = rw abs_neg (div-le_self (suc a) b)
abs_quotient (negsuc a) (negsuc b) = div-le_self (suc a) (suc b)

-- the bits of a number up to 2 ^ 31 on either side are what is left of it; likewise at 63
bits_int : (z : ℤ) → unsigned_abs z ≤ 2 ^ 31 → cast_signed w32 (cast_unsigned w32 z) ≡ int_wrap w32 z
unfolding int_wrap
bits_int (pos n) l = ap (cast_signed w32) (omega (arith, l))
bits_int (negsuc n) l = ap (cast_signed w32) (omega (arith, l))

bits_long : (z : ℤ) → unsigned_abs z ≤ 2 ^ 63 → cast_signed w64 (cast_unsigned w64 z) ≡ int_wrap w64 z
unfolding int_wrap
bits_long (pos n) l = ap (cast_signed w64) (omega (arith, l))
bits_long (negsuc n) l = ap (cast_signed w64) (omega (arith, l))

pub quotient_int : (x y r : ℤ) → FitsSigned w32 x → FitsSigned w32 y → r ≡ int_wrapping_div w32 (cast_signed w32 (cast_unsigned w32 x)) (cast_signed w32 (cast_unsigned w32 y))
    → cast_signed w32 (cast_unsigned w32 r) ≡ int_wrap w32 (int_div x y)
quotient_int x y r f g e =
    let arguments : int_wrapping_div w32 (cast_signed w32 (cast_unsigned w32 x)) (cast_signed w32 (cast_unsigned w32 y)) ≡ int_wrapping_div w32 x y =
    ap₂ (int_wrapping_div w32) (to_z-of_z w32 x f) (to_z-of_z w32 y g) in
    let wraps : r ≡ int_wrap w32 (int_div x y) = e ∙ arguments ∙ bits_int (int_div x y) (omega (arith, abs_quotient x y, nat_abs-le x f.sfits)) in
    rw wraps (to_z-of_z w32 _ (SFits-int_wrap w32 (int_div x y)))

pub quotient_long : (x y r : ℤ) → FitsSigned w64 x → FitsSigned w64 y → r ≡ int_wrapping_div w64 (cast_signed w64 (cast_unsigned w64 x)) (cast_signed w64 (cast_unsigned w64 y))
    → cast_signed w64 (cast_unsigned w64 r) ≡ int_wrap w64 (int_div x y)
quotient_long x y r f g e =
    let arguments : int_wrapping_div w64 (cast_signed w64 (cast_unsigned w64 x)) (cast_signed w64 (cast_unsigned w64 y)) ≡ int_wrapping_div w64 x y =
    ap₂ (int_wrapping_div w64) (to_z-of_z w64 x f) (to_z-of_z w64 y g) in
    let wraps : r ≡ int_wrap w64 (int_div x y) = e ∙ arguments ∙ bits_long (int_div x y) (omega (arith, abs_quotient x y, nat_abs-le x f.sfits)) in
    rw wraps (to_z-of_z w64 _ (SFits-int_wrap w64 (int_div x y)))

-- ---- steps

pub more_int : (x : ℤ) → FitsSigned w32 x → cast_signed w32 ((cast_unsigned w32 x + 1) % 2 ^ 32) ≡ int_wrap w32 (x +ℤ pos 1)
more_int x f = wrapping_add_is w32 x (pos 1) f (fits_signed_from_abs w32 (pos 1) (omega arith))

pub more_long : (x : ℤ) → FitsSigned w64 x → cast_signed w64 ((cast_unsigned w64 x + 1) % 2 ^ 64) ≡ int_wrap w64 (x +ℤ pos 1)
more_long x f = wrapping_add_is w64 x (pos 1) f (fits_signed_from_abs w64 (pos 1) (omega arith))

pub less_int : (x : ℤ) → FitsSigned w32 x → cast_signed w32 ((cast_unsigned w32 x + (2 ^ 32 - 1)) % 2 ^ 32) ≡ int_wrap w32 (x -ℤ pos 1)
less_int x f = wrapping_sub_is w32 x (pos 1) f (fits_signed_from_abs w32 (pos 1) (omega arith))

pub less_long : (x : ℤ) → FitsSigned w64 x → cast_signed w64 ((cast_unsigned w64 x + (2 ^ 64 - 1)) % 2 ^ 64) ≡ int_wrap w64 (x -ℤ pos 1)
less_long x f = wrapping_sub_is w64 x (pos 1) f (fits_signed_from_abs w64 (pos 1) (omega arith))
