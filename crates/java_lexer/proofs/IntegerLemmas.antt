-- The longest integer literals, and numbers that are none.
use Rattle.std.proofs.Common.{◌≡◌, ℕ, zero, suc, ◌+◌, Bool, true, false, cond, List, [], ◌∷◌, drop, ◌⊎◌, inl, inr, Option, Some, None, refl, ap, arith}
use Rattle.std.specs.List.{prefix_len}
use Rattle.java_lexer.specs.Bytes.{head, is_digit, is_nonzero, is_zero, is_octal, is_past_octal, is_hex, is_x, is_long}
use Rattle.java_lexer.specs.Forms.{Nothing, One, Many, Or, Maybe}
use Rattle.java_lexer.specs.Pieces.{IsInteger}
use Rattle.java_lexer.specs.Faults.{IsBareHex, IsBadOctal}
use Rattle.java_lexer.specs.Scan.{more, digits, hexadecimal, octal, after_zero, integer}
use Rattle.java_lexer.proofs.FormLemmas.{Most, most_same, most_nothing, one_nil, one_not, most_one, or_right, or_left, or_longer, most_many, most_digits, digits_more, digits_none}
use Rattle.java_lexer.proofs.Apart.{long_digit, long_octal, long_hex, x_octal, x_past, x_long, past_octal, zero_nonzero, digit_nonzero}

abbrev pub Decimal : ℕ → List ℕ → Type 0
Decimal = One is_nonzero (Many is_digit (Maybe is_long Nothing))

abbrev pub Octal : ℕ → List ℕ → Type 0
Octal = One is_zero (Many is_octal (Maybe is_long Nothing))

abbrev pub Hex : ℕ → List ℕ → Type 0
Hex = One is_zero (One is_x (One is_hex (Many is_hex (Maybe is_long Nothing))))

-- the first 8 or 9 behind octal digits
abbrev pub past_len : List ℕ → Option ℕ
past_len cs = cond (is_past_octal (head cs)) (Some 1) None

most_past : (cs : List ℕ) → Most (One is_past_octal Nothing) cs (past_len cs)
most_past [] = one_nil is_past_octal Nothing
most_past (b ∷ bs) = by_test _ refl
  where
    by_test : (t : Bool) → is_past_octal b ≡ t → Most (One is_past_octal Nothing) (b ∷ bs) (cond t (Some 1) None)
    by_test true e = most_one is_past_octal Nothing b bs (Some 0) e (most_nothing bs)
    by_test false e = one_not is_past_octal Nothing b bs e

past_stops : (n b : ℕ) (bs : List ℕ) → One is_past_octal Nothing (suc n) (b ∷ bs) → is_octal b ≡ false
past_stops n b bs (t, h) = past_octal b t

most_bad : (b : ℕ) (bs : List ℕ) → is_zero b ≡ true
    → Most (One is_zero (Many is_octal (One is_past_octal Nothing))) (b ∷ bs) (more 1 (more (prefix_len is_octal bs) (past_len (drop (prefix_len is_octal bs) bs))))
most_bad b bs e =
    most_one is_zero (Many is_octal (One is_past_octal Nothing)) b bs _ e
    (most_many is_octal (One is_past_octal Nothing) past_len most_past past_stops (λ bs cs h. h) bs)

-- what a length says of the number that it is of
abbrev pub NumberTold : List ℕ → Option ℕ → Type 0
NumberTold bs None = IsBareHex bs ⊎ IsBadOctal bs
NumberTold bs (Some n) = Most IsInteger bs (Some n) × ((IsBareHex bs ⊎ IsBadOctal bs) → ⊥)

not_bare : (b : ℕ) (bs : List ℕ) → is_x (head bs) ≡ false → IsBareHex (b ∷ bs) → ⊥
not_bare b [] e h = h
not_bare b (x ∷ bs) e (z, f, g) = cc

octal_told : (b : ℕ) (bs : List ℕ) → is_zero b ≡ true → is_x (head bs) ≡ false → NumberTold (b ∷ bs) (octal bs)
octal_told b bs z no_x = by_past _ refl
  where
    no_hex : (bs : List ℕ) → is_x (head bs) ≡ false → (n : ℕ) → Hex n (b ∷ bs) → ⊥
    no_hex bs e zero h = h
    no_hex [] e (suc n) (t, h) = one_nil is_x (One is_hex (Many is_hex (Maybe is_long Nothing))) n h
    no_hex (x ∷ bs) e (suc n) (t, h) = one_not is_x (One is_hex (Many is_hex (Maybe is_long Nothing))) x bs e n h

    by_past : (t : Bool) → is_past_octal (head (drop (prefix_len is_octal bs) bs)) ≡ t → NumberTold (b ∷ bs) (cond t None (Some (digits is_octal is_long bs + 1)))
    by_past true e =
        let m = most_bad b bs z in
        inr (_, (most_same (One is_zero (Many is_octal (One is_past_octal Nothing))) (b ∷ bs) _ (Some (1 + prefix_len is_octal bs + 1)) (rw e refl) m).0)
    by_past false e =
        let m : Most (One is_zero (Many is_octal (One is_past_octal Nothing))) (b ∷ bs) None = most_same (One is_zero (Many is_octal (One is_past_octal Nothing))) (b ∷ bs) _ None (rw e refl) (most_bad b bs z) in (
          or_right Decimal (Or Octal Hex) (b ∷ bs) (Some (digits is_octal is_long bs + 1)) (one_not is_nonzero _ b bs (zero_nonzero b z))
              (or_left Octal Hex (b ∷ bs) (Some (digits is_octal is_long bs + 1))
              (most_one is_zero (Many is_octal (Maybe is_long Nothing)) b bs (Some (digits is_octal is_long bs)) z (most_digits is_octal is_long long_octal bs)) (no_hex bs no_x)),
          fine m,
        )
      where
        fine : ((n : ℕ) → One is_zero (Many is_octal (One is_past_octal Nothing)) n (b ∷ bs) → ⊥) → (IsBareHex (b ∷ bs) ⊎ IsBadOctal (b ∷ bs)) → ⊥
        fine m (inl h) = not_bare b bs no_x h
        fine m (inr h) = m h.0 h.1

hexadecimal_told : (b x : ℕ) (bs : List ℕ) → is_zero b ≡ true → is_x x ≡ true → NumberTold (b ∷ x ∷ bs) (hexadecimal bs)
hexadecimal_told b x bs z is_x_x = by_hex bs _ refl
  where
    zero_one : (bs : List ℕ) → Most Octal (b ∷ x ∷ bs) (Some 1)
    zero_one bs =
        most_same Octal (b ∷ x ∷ bs) _ (Some 1) (ap (λ n. Some (n + 1)) (digits_none is_octal is_long x bs (x_octal x is_x_x) (x_long x is_x_x)))
        (most_one is_zero (Many is_octal (Maybe is_long Nothing)) b (x ∷ bs) (Some (digits is_octal is_long (x ∷ bs))) z (most_digits is_octal is_long long_octal (x ∷ bs)))

    no_past : (bs : List ℕ) (n : ℕ) → One is_zero (Many is_octal (One is_past_octal Nothing)) n (b ∷ x ∷ bs) → ⊥
    no_past bs zero h = h
    no_past bs (suc zero) (t, h) = h
    no_past bs (suc (suc n)) (t, inl (p, h)) = let f = x_past x is_x_x in cc
    no_past bs (suc (suc n)) (t, inr (p, h)) = let f = x_octal x is_x_x in cc

    fine : (bs : List ℕ) → is_hex (head bs) ≡ true → (IsBareHex (b ∷ x ∷ bs) ⊎ IsBadOctal (b ∷ x ∷ bs)) → ⊥
    fine bs e (inl (f, g, h)) = cc
    fine bs e (inr h) = no_past bs h.0 h.1

    long : (h : ℕ) (bs : List ℕ) → is_hex h ≡ true → Most Hex (b ∷ x ∷ h ∷ bs) (Some (digits is_hex is_long (h ∷ bs) + 2))
    long h bs e =
        most_same Hex (b ∷ x ∷ h ∷ bs) (Some (digits is_hex is_long bs + 1 + 1 + 1)) (Some (digits is_hex is_long (h ∷ bs) + 2)) (plus (digits is_hex is_long bs) (digits is_hex is_long (h ∷ bs)) (digits_more is_hex is_long h bs e))
        (most_one is_zero (One is_x (One is_hex (Many is_hex (Maybe is_long Nothing)))) b (x ∷ h ∷ bs) (Some (digits is_hex is_long bs + 1 + 1)) z
        (most_one is_x (One is_hex (Many is_hex (Maybe is_long Nothing))) x (h ∷ bs) (Some (digits is_hex is_long bs + 1)) is_x_x
        (most_one is_hex (Many is_hex (Maybe is_long Nothing)) h bs (Some (digits is_hex is_long bs)) e (most_digits is_hex is_long long_hex bs))))
      where
        plus : (k d : ℕ) → d ≡ k + 1 → Some (k + 1 + 1 + 1) ≡ Some (d + 2)
        plus k d e = let s : k + 1 + 1 + 1 ≡ d + 2 = omega arith in ap Some s

    by_hex : (bs : List ℕ) (t : Bool) → is_hex (head bs) ≡ t → NumberTold (b ∷ x ∷ bs) (cond t (Some (digits is_hex is_long bs + 2)) None)
    by_hex bs false e = inl (z, is_x_x, e)
    by_hex [] true e = absurd (cc)
    by_hex (h ∷ bs) true e = (
      or_right Decimal (Or Octal Hex) (b ∷ x ∷ h ∷ bs) (Some (digits is_hex is_long (h ∷ bs) + 2)) (one_not is_nonzero _ b (x ∷ h ∷ bs) (zero_nonzero b z))
          (or_longer Octal Hex (b ∷ x ∷ h ∷ bs) 1 (digits is_hex is_long (h ∷ bs) + 2) (omega arith) (zero_one (h ∷ bs)) (long h bs e)),
      fine (h ∷ bs) e,
    )

after_zero_told : (b : ℕ) (bs : List ℕ) → is_zero b ≡ true → NumberTold (b ∷ bs) (after_zero bs)
after_zero_told b [] z = octal_told b [] z refl
after_zero_told b (x ∷ bs) z = by_x _ refl
  where
    by_x : (t : Bool) → is_x x ≡ t → NumberTold (b ∷ x ∷ bs) (cond t (hexadecimal bs) (octal (x ∷ bs)))
    by_x true e = hexadecimal_told b x bs z e
    by_x false e = octal_told b (x ∷ bs) z e

pub integer_told : (b : ℕ) (bs : List ℕ) → is_digit b ≡ true → NumberTold (b ∷ bs) (integer b bs)
integer_told b bs d = by_zero _ refl
  where
    not_bare_here : is_zero b ≡ false → (bs : List ℕ) → IsBareHex (b ∷ bs) → ⊥
    not_bare_here z [] h = h
    not_bare_here z (x ∷ bs) (t, u, v) = cc

    fine : is_zero b ≡ false → (IsBareHex (b ∷ bs) ⊎ IsBadOctal (b ∷ bs)) → ⊥
    fine z (inl h) = not_bare_here z bs h
    fine z (inr h) = one_not is_zero _ b bs z h.0 h.1

    by_zero : (t : Bool) → is_zero b ≡ t → NumberTold (b ∷ bs) (cond t (after_zero bs) (Some (digits is_digit is_long bs + 1)))
    by_zero true z = after_zero_told b bs z
    by_zero false z = (
      or_left Decimal (Or Octal Hex) (b ∷ bs) (Some (digits is_digit is_long bs + 1))
          (most_one is_nonzero (Many is_digit (Maybe is_long Nothing)) b bs (Some (digits is_digit is_long bs)) (digit_nonzero b d z) (most_digits is_digit is_long long_digit bs))
          (or_left Octal Hex (b ∷ bs) None (one_not is_zero _ b bs z) (one_not is_zero _ b bs z)),
      fine z,
    )
