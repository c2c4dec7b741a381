-- The longest numbers.
use Rattle.std.proofs.Common.{◌≡◌, ◌≤◌, ℕ, suc, ◌+◌, Bool, true, false, cond, List, [], ◌∷◌, drop, inl, inr, Option, Some, None, refl, ap, sym, ◌∙◌, arith}
use Rattle.std.proofs.Math.Numerals.{one-add}
use Rattle.std.specs.List.{prefix_len}
use Rattle.std.specs.Option.{unwrap_or}
use Rattle.java_lexer.specs.Bytes.{head, is_digit, is_exponent, is_sign, is_float, is_dot}
use Rattle.java_lexer.specs.Forms.{Nothing, One, Many, Or, Maybe}
use Rattle.java_lexer.specs.Pieces.{FloatEnd, Exponent, Fraction, IsFloating}
use Rattle.java_lexer.specs.Scan.{more, one_len, digits, exponent_digits, signed, exponent, float_end, fraction, after_digits, floating}
use Rattle.java_lexer.proofs.Lengths.{more_more}
use Rattle.java_lexer.proofs.FormLemmas.{Most, most_same, most_nothing, one_nil, one_not, one_positive, most_one, or_right, or_left, or_longer, most_many, most_suffix, most_digits, digits_more}
use Rattle.java_lexer.proofs.Apart.{float_digit, float_exponent, exponent_digit, sign_digit, dot_digit, dot_float, dot_exponent, digit_dot}

-- ---- floating literals

Digits : ℕ → List ℕ → Type 0
Digits = One is_digit (Many is_digit FloatEnd)

most_exponent_digits : (bs : List ℕ) → Most (One is_digit (Many is_digit FloatEnd)) bs (exponent_digits bs)
most_exponent_digits [] = one_nil is_digit (Many is_digit FloatEnd)
most_exponent_digits (b ∷ bs) = by_test _ refl
  where
    by_test : (t : Bool) → is_digit b ≡ t → Most (One is_digit (Many is_digit FloatEnd)) (b ∷ bs) (cond t (Some (digits is_digit is_float (b ∷ bs))) None)
    by_test true e =
        most_same (One is_digit (Many is_digit FloatEnd)) (b ∷ bs) _ _ (ap Some (sym (digits_more is_digit is_float b bs e)))
        (most_one is_digit (Many is_digit FloatEnd) b bs (Some (digits is_digit is_float bs)) e (most_digits is_digit is_float float_digit bs))
    by_test false e = one_not is_digit (Many is_digit FloatEnd) b bs e

most_signed : (bs : List ℕ) → Most (Maybe is_sign (One is_digit (Many is_digit FloatEnd))) bs (signed bs)
most_signed [] = or_left (One is_digit (Many is_digit FloatEnd)) (One is_sign (One is_digit (Many is_digit FloatEnd))) [] None (most_exponent_digits []) (one_nil is_sign (One is_digit (Many is_digit FloatEnd)))
most_signed (b ∷ bs) = by_test _ refl
  where
    by_test : (t : Bool) → is_sign b ≡ t → Most (Maybe is_sign (One is_digit (Many is_digit FloatEnd))) (b ∷ bs) (cond t (more 1 (exponent_digits bs)) (exponent_digits (b ∷ bs)))
    by_test true e =
        or_right (One is_digit (Many is_digit FloatEnd)) (One is_sign (One is_digit (Many is_digit FloatEnd))) (b ∷ bs) (more 1 (exponent_digits bs))
        (one_not is_digit (Many is_digit FloatEnd) b bs (sign_digit b e))
        (most_one is_sign (One is_digit (Many is_digit FloatEnd)) b bs (exponent_digits bs) e (most_exponent_digits bs))
    by_test false e =
        or_left (One is_digit (Many is_digit FloatEnd)) (One is_sign (One is_digit (Many is_digit FloatEnd))) (b ∷ bs) (exponent_digits (b ∷ bs))
        (most_exponent_digits (b ∷ bs)) (one_not is_sign (One is_digit (Many is_digit FloatEnd)) b bs e)

pub most_exponent : (bs : List ℕ) → Most Exponent bs (exponent bs)
most_exponent [] = one_nil is_exponent (Maybe is_sign (One is_digit (Many is_digit FloatEnd)))
most_exponent (b ∷ bs) = by_test _ refl
  where
    by_test : (t : Bool) → is_exponent b ≡ t → Most Exponent (b ∷ bs) (cond t (more 1 (signed bs)) None)
    by_test true e = most_one is_exponent (Maybe is_sign (One is_digit (Many is_digit FloatEnd))) b bs (signed bs) e (most_signed bs)
    by_test false e = one_not is_exponent (Maybe is_sign (One is_digit (Many is_digit FloatEnd))) b bs e

one_len_one : (p : ℕ → Bool) (bs : List ℕ) → one_len p bs ≤ 1
one_len_one p [] = omega arith
one_len_one p (b ∷ bs) = by_test (p b)
  where
    by_test : (t : Bool) → cond t 1 0 ≤ 1
    by_test true = omega arith
    by_test false = omega arith

most_float_end : (bs : List ℕ) → Most (Or FloatEnd Exponent) bs (Some (float_end bs))
most_float_end bs = by_some _ (most_exponent bs)
  where
    by_some : (o : Option ℕ) → Most Exponent bs o → Most (Or FloatEnd Exponent) bs (Some (unwrap_or o (one_len is_float bs)))
    by_some None h = or_left FloatEnd Exponent bs (Some (one_len is_float bs)) (most_suffix is_float bs) h
    by_some (Some n) h =
        let some = one_positive is_exponent (Maybe is_sign (One is_digit (Many is_digit FloatEnd))) bs n h.0 in
        let le = one_len_one is_float bs in
        or_longer FloatEnd Exponent bs (one_len is_float bs) n (omega arith) (most_suffix is_float bs) h

float_end_stops : (n b : ℕ) (bs : List ℕ) → Or FloatEnd Exponent (suc n) (b ∷ bs) → is_digit b ≡ false
float_end_stops n b bs (inl (inl e)) = absurd (omega arith)
float_end_stops n b bs (inl (inr (t, h))) = float_digit b t
float_end_stops n b bs (inr (t, h)) = exponent_digit b t

float_end_empty : (bs cs : List ℕ) → Or FloatEnd Exponent 0 bs → Or FloatEnd Exponent 0 cs
float_end_empty bs cs (inl (inl e)) = inl (inl e)
float_end_empty bs cs (inl (inr h)) = absurd h
float_end_empty bs cs (inr h) = absurd h

pub most_fraction : (bs : List ℕ) → Most Fraction bs (Some (fraction bs))
most_fraction bs =
    most_same Fraction bs _ _ same
    (most_many is_digit (Or FloatEnd Exponent) (λ (cs : List ℕ). Some (float_end cs)) most_float_end float_end_stops float_end_empty bs)
  where
    same : more (prefix_len is_digit bs) (Some (float_end (drop (prefix_len is_digit bs) bs))) ≡ Some (fraction bs)
    same = let e : float_end (drop (prefix_len is_digit bs) bs) + prefix_len is_digit bs ≡ fraction bs = omega arith in ap Some e

-- what makes digits a floating literal
After : ℕ → List ℕ → Type 0
After = Or (One is_dot Fraction) (Or Exponent (One is_float Nothing))

most_after : (bs : List ℕ) → Most After bs (after_digits bs)
unfolding After
most_after [] = or_left (One is_dot Fraction) (Or Exponent (One is_float Nothing)) [] None (one_nil is_dot Fraction) (or_left Exponent (One is_float Nothing) [] None (most_exponent []) (one_nil is_float Nothing))
most_after (b ∷ bs) = by_dot _ refl
  where
    by_float : (t : Bool) → is_float b ≡ t → is_dot b ≡ false → Most (Or (One is_dot Fraction) (Or Exponent (One is_float Nothing))) (b ∷ bs) (cond t (Some 1) (exponent (b ∷ bs)))
    by_float true e d =
        or_right (One is_dot Fraction) (Or Exponent (One is_float Nothing)) (b ∷ bs) (Some 1) (one_not is_dot Fraction b bs d)
        (or_right Exponent (One is_float Nothing) (b ∷ bs) (Some 1) (one_not is_exponent _ b bs (float_exponent b e))
        (most_one is_float Nothing b bs (Some 0) e (most_nothing bs)))
    by_float false e d =
        or_right (One is_dot Fraction) (Or Exponent (One is_float Nothing)) (b ∷ bs) (exponent (b ∷ bs)) (one_not is_dot Fraction b bs d)
        (or_left Exponent (One is_float Nothing) (b ∷ bs) (exponent (b ∷ bs)) (most_exponent (b ∷ bs)) (one_not is_float Nothing b bs e))

    by_dot : (t : Bool) → is_dot b ≡ t → Most (Or (One is_dot Fraction) (Or Exponent (One is_float Nothing))) (b ∷ bs) (cond t (Some (fraction bs + 1)) (cond (is_float b) (Some 1) (exponent (b ∷ bs))))
    by_dot true e =
        or_left (One is_dot Fraction) (Or Exponent (One is_float Nothing)) (b ∷ bs) (Some (fraction bs + 1))
        (most_one is_dot Fraction b bs (Some (fraction bs)) e (most_fraction bs))
        (or_left Exponent (One is_float Nothing) (b ∷ bs) None (one_not is_exponent _ b bs (dot_exponent b e)) (one_not is_float Nothing b bs (dot_float b e)))
    by_dot false e = by_float _ refl e

after_stops : (n b : ℕ) (bs : List ℕ) → After (suc n) (b ∷ bs) → is_digit b ≡ false
unfolding After
after_stops n b bs (inl (t, h)) = dot_digit b t
after_stops n b bs (inr (inl (t, h))) = exponent_digit b t
after_stops n b bs (inr (inr (t, h))) = float_digit b t

after_empty : (bs cs : List ℕ) → After 0 bs → After 0 cs
unfolding After
after_empty bs cs (inl h) = absurd h
after_empty bs cs (inr (inl h)) = absurd h
after_empty bs cs (inr (inr h)) = absurd h

-- a literal that begins with a digit
pub most_floating : (b : ℕ) (bs : List ℕ) → is_digit b ≡ true → Most IsFloating (b ∷ bs) (floating bs)
unfolding After
most_floating b bs e =
    or_left (One is_digit (Many is_digit After)) (One is_dot (One is_digit Fraction)) (b ∷ bs) (floating bs)
    (most_same (One is_digit (Many is_digit After)) (b ∷ bs) _ _ (more_more 1 (prefix_len is_digit bs) _ ∙ same)
    (most_one is_digit (Many is_digit After) b bs _ e (most_many is_digit After after_digits most_after after_stops after_empty bs)))
    (one_not is_dot (One is_digit Fraction) b bs (digit_dot b e))
  where
    same : more (1 + prefix_len is_digit bs) (after_digits (drop (prefix_len is_digit bs) bs)) ≡ floating bs
    same = let e : 1 + prefix_len is_digit bs ≡ prefix_len is_digit bs + 1 = omega arith in ap (λ n. more n (after_digits (drop (prefix_len is_digit bs) bs))) e

-- a literal that begins with a point
pub most_point : (b : ℕ) (bs : List ℕ) → is_dot b ≡ true → Most IsFloating (b ∷ bs) (cond (is_digit (head bs)) (Some (fraction bs + 1)) None)
most_point b bs e =
    or_right (One is_digit (Many is_digit (Or (One is_dot Fraction) (Or Exponent (One is_float Nothing))))) (One is_dot (One is_digit Fraction)) (b ∷ bs) _
    (one_not is_digit _ b bs (dot_digit b e)) (behind bs)
  where
    plus : (d : ℕ) (ds : List ℕ) → is_digit d ≡ true → fraction (d ∷ ds) ≡ fraction ds + 1
    plus d ds f = rw (f, one-add) (again (prefix_len is_digit ds) (float_end (drop (prefix_len is_digit ds) ds)))
      where
        again : (k l : ℕ) → suc k + l ≡ k + l + 1
        again k l = omega arith

    by_test : (d : ℕ) (ds : List ℕ) (t : Bool) → is_digit d ≡ t → Most (One is_dot (One is_digit Fraction)) (b ∷ d ∷ ds) (cond t (Some (fraction (d ∷ ds) + 1)) None)
    by_test d ds true f =
        most_one is_dot (One is_digit Fraction) b (d ∷ ds) (Some (fraction (d ∷ ds))) e
        (most_same (One is_digit Fraction) (d ∷ ds) _ _ (ap Some (sym (plus d ds f))) (most_one is_digit Fraction d ds (Some (fraction ds)) f (most_fraction ds)))
    by_test d ds false f = most_one is_dot (One is_digit Fraction) b (d ∷ ds) None e (one_not is_digit Fraction d ds f)

    behind : (bs : List ℕ) → Most (One is_dot (One is_digit Fraction)) (b ∷ bs) (cond (is_digit (head bs)) (Some (fraction bs + 1)) None)
    behind [] = most_one is_dot (One is_digit Fraction) b [] None e (one_nil is_digit Fraction)
    behind (d ∷ ds) = by_test d ds _ refl
