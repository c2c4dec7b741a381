-- Bytes that can't stand in a front of a form.
use Rattle.std.proofs.Common.{◌≡◌, ◌≤◌, ◌<◌, ℕ, zero, suc, ◌==◌, Bool, true, false, ◌||◌, List, [], ◌∷◌, ◌++◌, length, drop, inl, inr, refl, subst, arith}
use Rattle.std.proofs.lemmas.Bool.Decides.{nat_tests}
use Rattle.java_lexer.specs.Bytes.{is_start, is_part, is_digit, is_nonzero, is_zero, is_octal, is_past_octal, is_hex, is_x, is_long, is_exponent, is_sign, is_float, is_dot, is_slash, is_star, is_pair, is_triple}
use Rattle.java_lexer.specs.Forms.{Nothing, One, Many, Or, Maybe}
use Rattle.java_lexer.specs.Pieces.{IsInteger, FloatEnd, Exponent, Fraction, IsFloating, IsOperator}
use Rattle.java_lexer.specs.Splice.{is_stop}
use Rattle.java_lexer.proofs.Bounds.{BadOctal}

-- the list ends with the byte
abbrev pub Ends : ℕ → List ℕ → Type 0
Ends z [] = ⊥
Ends z (u ∷ []) = u ≡ z
Ends z (u ∷ v ∷ us) = Ends z (v ∷ us)

pub ends_snoc : (us : List ℕ) (z : ℕ) → Ends z (us ++ z ∷ [])
ends_snoc [] z = refl
ends_snoc (u ∷ []) z = refl
ends_snoc (u ∷ v ∷ us) z = ends_snoc (v ∷ us) z

pub ends_drop : (k : ℕ) (us : List ℕ) (z : ℕ) → k < length us → Ends z us → Ends z (drop k us)
ends_drop zero us z lt e = e
ends_drop (suc k) [] z lt e = absurd (omega arith)
ends_drop (suc k) (u ∷ []) z lt e = absurd (omega arith)
ends_drop (suc k) (u ∷ v ∷ us) z lt e = ends_drop k (v ∷ us) z (omega arith) e

-- no front holds all of a list that ends with the byte
pub record Shuts (z : ℕ) (K : ℕ → List ℕ → Type 0) : Type 0 where
  pub never : (n : ℕ) (us ys : List ℕ) → Ends z us → length us ≤ n → K n (us ++ ys) → ⊥

shuts_nothing : (z : ℕ) → Shuts z Nothing
shuts_nothing z = record { never = never }
  where
    never : (n : ℕ) (us ys : List ℕ) → Ends z us → length us ≤ n → Nothing n (us ++ ys) → ⊥
    never n [] ys e le h = e
    never n (u ∷ us) ys e le h = absurd (omega arith)

shuts_one : (z : ℕ) (p : ℕ → Bool) (K : ℕ → List ℕ → Type 0) → p z ≡ false → Shuts z K → Shuts z (One p K)
shuts_one z p K no_z s = record { never = never }
  where
    never : (n : ℕ) (us ys : List ℕ) → Ends z us → length us ≤ n → One p K n (us ++ ys) → ⊥
    never n [] ys e le h = e
    never zero (u ∷ us) ys e le h = h
    never (suc n) (u ∷ []) ys e le (t, h) = let f : p z ≡ true = subst (λ x. p x ≡ true) e t in cc
    never (suc n) (u ∷ v ∷ us) ys e le (t, h) = s.never n (v ∷ us) ys e (omega arith) h

shuts_many : (z : ℕ) (p : ℕ → Bool) (K : ℕ → List ℕ → Type 0) → p z ≡ false → Shuts z K → Shuts z (Many p K)
shuts_many z p K no_z s = record { never = never }
  where
    never : (n : ℕ) (us ys : List ℕ) → Ends z us → length us ≤ n → Many p K n (us ++ ys) → ⊥
    never n [] ys e le h = e
    never zero (u ∷ us) ys e le h = absurd (omega arith)
    never (suc n) (u ∷ us) ys e le (inl h) = s.never (suc n) (u ∷ us) ys e le h
    never (suc n) (u ∷ []) ys e le (inr (t, h)) = let f : p z ≡ true = subst (λ x. p x ≡ true) e t in cc
    never (suc n) (u ∷ v ∷ us) ys e le (inr (t, h)) = never n (v ∷ us) ys e (omega arith) h

shuts_or : (z : ℕ) (A B : ℕ → List ℕ → Type 0) → Shuts z A → Shuts z B → Shuts z (Or A B)
shuts_or z A B a b = record { never = never }
  where
    never : (n : ℕ) (us ys : List ℕ) → Ends z us → length us ≤ n → Or A B n (us ++ ys) → ⊥
    never n us ys e le (inl h) = a.never n us ys e le h
    never n us ys e le (inr h) = b.never n us ys e le h

-- ---- bytes that are no part of a word

part_start : (b : ℕ) → is_part b ≡ false → is_start b ≡ false
part_start b e = grind (arith, nat_tests)

pub part_digit : (b : ℕ) → is_part b ≡ false → is_digit b ≡ false
part_digit b e = grind (arith, nat_tests)

part_nonzero : (b : ℕ) → is_part b ≡ false → is_nonzero b ≡ false
part_nonzero b e = grind (arith, nat_tests)

part_zero : (b : ℕ) → is_part b ≡ false → is_zero b ≡ false
part_zero b e = grind (arith, nat_tests)

part_octal : (b : ℕ) → is_part b ≡ false → is_octal b ≡ false
part_octal b e = grind (arith, nat_tests)

part_past : (b : ℕ) → is_part b ≡ false → is_past_octal b ≡ false
part_past b e = grind (arith, nat_tests)

part_hex : (b : ℕ) → is_part b ≡ false → is_hex b ≡ false
part_hex b e = grind (arith, nat_tests)

pub part_x : (b : ℕ) → is_part b ≡ false → is_x b ≡ false
part_x b e = grind (arith, nat_tests)

part_long : (b : ℕ) → is_part b ≡ false → is_long b ≡ false
part_long b e = grind (arith, nat_tests)

pub part_exponent : (b : ℕ) → is_part b ≡ false → is_exponent b ≡ false
part_exponent b e = grind (arith, nat_tests)

pub part_float : (b : ℕ) → is_part b ≡ false → is_float b ≡ false
part_float b e = grind (arith, nat_tests)

pub shuts_word : (z : ℕ) → is_part z ≡ false → Shuts z (One is_start (Many is_part Nothing))
shuts_word z e = shuts_one z is_start (Many is_part Nothing) (part_start z e) (shuts_many z is_part Nothing e (shuts_nothing z))

shuts_long : (z : ℕ) → is_part z ≡ false → Shuts z (Maybe is_long Nothing)
shuts_long z e = shuts_or z Nothing (One is_long Nothing) (shuts_nothing z) (shuts_one z is_long Nothing (part_long z e) (shuts_nothing z))

pub shuts_integer : (z : ℕ) → is_part z ≡ false → Shuts z IsInteger
shuts_integer z e =
    shuts_or z (One is_nonzero (Many is_digit (Maybe is_long Nothing)))
    (Or (One is_zero (Many is_octal (Maybe is_long Nothing))) (One is_zero (One is_x (One is_hex (Many is_hex (Maybe is_long Nothing))))))
    (shuts_one z is_nonzero (Many is_digit (Maybe is_long Nothing)) (part_nonzero z e) (shuts_many z is_digit (Maybe is_long Nothing) (part_digit z e) (shuts_long z e)))
    (shuts_or z (One is_zero (Many is_octal (Maybe is_long Nothing))) (One is_zero (One is_x (One is_hex (Many is_hex (Maybe is_long Nothing)))))
    (shuts_one z is_zero (Many is_octal (Maybe is_long Nothing)) (part_zero z e) (shuts_many z is_octal (Maybe is_long Nothing) (part_octal z e) (shuts_long z e)))
    (shuts_one z is_zero (One is_x (One is_hex (Many is_hex (Maybe is_long Nothing)))) (part_zero z e) (shuts_one z is_x (One is_hex (Many is_hex (Maybe is_long Nothing))) (part_x z e)
    (shuts_one z is_hex (Many is_hex (Maybe is_long Nothing)) (part_hex z e) (shuts_many z is_hex (Maybe is_long Nothing) (part_hex z e) (shuts_long z e))))))

pub shuts_bad_octal : (z : ℕ) → is_part z ≡ false → Shuts z BadOctal
shuts_bad_octal z e =
    shuts_one z is_zero (Many is_octal (One is_past_octal Nothing)) (part_zero z e)
    (shuts_many z is_octal (One is_past_octal Nothing) (part_octal z e) (shuts_one z is_past_octal Nothing (part_past z e) (shuts_nothing z)))

shuts_float_end : (z : ℕ) → is_part z ≡ false → Shuts z FloatEnd
shuts_float_end z e = shuts_or z Nothing (One is_float Nothing) (shuts_nothing z) (shuts_one z is_float Nothing (part_float z e) (shuts_nothing z))

abbrev FloatDigits : ℕ → List ℕ → Type 0
FloatDigits = One is_digit (Many is_digit FloatEnd)

shuts_float_digits : (z : ℕ) → is_part z ≡ false → Shuts z FloatDigits
shuts_float_digits z e = shuts_one z is_digit (Many is_digit FloatEnd) (part_digit z e) (shuts_many z is_digit FloatEnd (part_digit z e) (shuts_float_end z e))

shuts_exponent : (z : ℕ) → is_part z ≡ false → is_sign z ≡ false → Shuts z Exponent
shuts_exponent z e s =
    shuts_one z is_exponent (Maybe is_sign FloatDigits) (part_exponent z e)
    (shuts_or z FloatDigits (One is_sign FloatDigits) (shuts_float_digits z e) (shuts_one z is_sign FloatDigits s (shuts_float_digits z e)))

shuts_fraction : (z : ℕ) → is_part z ≡ false → is_sign z ≡ false → Shuts z Fraction
shuts_fraction z e s = shuts_many z is_digit (Or FloatEnd Exponent) (part_digit z e) (shuts_or z FloatEnd Exponent (shuts_float_end z e) (shuts_exponent z e s))

abbrev After : ℕ → List ℕ → Type 0
After = Or (One is_dot Fraction) (Or Exponent (One is_float Nothing))

pub shuts_floating : (z : ℕ) → is_part z ≡ false → is_sign z ≡ false → is_dot z ≡ false → Shuts z IsFloating
shuts_floating z e s d =
    shuts_or z (One is_digit (Many is_digit After)) (One is_dot (One is_digit Fraction))
    (shuts_one z is_digit (Many is_digit After) (part_digit z e) (shuts_many z is_digit After (part_digit z e)
    (shuts_or z (One is_dot Fraction) (Or Exponent (One is_float Nothing)) (shuts_one z is_dot Fraction d (shuts_fraction z e s))
    (shuts_or z Exponent (One is_float Nothing) (shuts_exponent z e s) (shuts_one z is_float Nothing (part_float z e) (shuts_nothing z))))))
    (shuts_one z is_dot (One is_digit Fraction) d (shuts_one z is_digit Fraction (part_digit z e) (shuts_fraction z e s)))

-- ---- later bytes of operators

abbrev pub goes_on : ℕ → Bool
goes_on b = (b == 61) || (b == 43) || (b == 45) || (b == 38) || (b == 124) || (b == 60) || (b == 46)

pair_goes : (b c : ℕ) → is_pair b c ≡ true → goes_on c ≡ true
pair_goes b c e = grind (arith, nat_tests)

triple_second : (b c d : ℕ) → is_triple b c d ≡ true → goes_on c ≡ true
triple_second b c d e = grind (arith, nat_tests)

triple_third : (b c d : ℕ) → is_triple b c d ≡ true → goes_on d ≡ true
triple_third b c d e = grind (arith, nat_tests)

-- no operator goes on with the byte
pub operator_ends : (b n : ℕ) (us ys : List ℕ) → goes_on b ≡ false → 0 < length us → IsOperator n (us ++ b ∷ ys) → n ≤ length us
operator_ends b zero us ys e some h = absurd h
operator_ends b (suc zero) us ys e some h = omega arith
operator_ends b (suc (suc zero)) [] ys e some h = absurd (omega arith)
operator_ends b (suc (suc zero)) (u ∷ []) ys e some h = let f = pair_goes u b h in absurd (cc)
operator_ends b (suc (suc zero)) (u ∷ v ∷ us) ys e some h = omega arith
operator_ends b (suc (suc (suc zero))) [] ys e some h = absurd (omega arith)
operator_ends b (suc (suc (suc zero))) (u ∷ []) [] e some h = absurd h
operator_ends b (suc (suc (suc zero))) (u ∷ []) (y ∷ ys) e some h = let f = triple_second u b y h in absurd (cc)
operator_ends b (suc (suc (suc zero))) (u ∷ v ∷ []) ys e some h = let f = triple_third u v b h in absurd (cc)
operator_ends b (suc (suc (suc zero))) (u ∷ v ∷ w ∷ us) ys e some h = omega arith
operator_ends b (suc (suc (suc (suc n)))) us ys e some h = absurd h

-- ---- stops and letters

pub stop_part : (b : ℕ) → is_stop b ≡ true → is_part b ≡ false
stop_part b e = grind (arith, nat_tests)

pub stop_sign : (b : ℕ) → is_stop b ≡ true → is_sign b ≡ false
stop_sign b e = grind (arith, nat_tests)

pub stop_dot : (b : ℕ) → is_stop b ≡ true → is_dot b ≡ false
stop_dot b e = grind (arith, nat_tests)

pub stop_goes : (b : ℕ) → is_stop b ≡ true → goes_on b ≡ false
stop_goes b e = grind (arith, nat_tests)

pub stop_slash : (b : ℕ) → is_stop b ≡ true → is_slash b ≡ false
stop_slash b e = grind (arith, nat_tests)

pub stop_star : (b : ℕ) → is_stop b ≡ true → is_star b ≡ false
stop_star b e = grind (arith, nat_tests)

pub start_goes : (b : ℕ) → is_start b ≡ true → goes_on b ≡ false
start_goes b e = grind (arith, nat_tests)

pub start_slash : (b : ℕ) → is_start b ≡ true → is_slash b ≡ false
start_slash b e = grind (arith, nat_tests)

pub start_star : (b : ℕ) → is_start b ≡ true → is_star b ≡ false
start_star b e = grind (arith, nat_tests)

pub start_digit : (b : ℕ) → is_start b ≡ true → is_digit b ≡ false
start_digit b e = grind (arith, nat_tests)

-- ---- a letter behind a byte that is no part of a word: in a floating literal this byte is the first point

-- a front that holds a list and the letter behind it, where the list ends with the byte
pub record Rare (z b : ℕ) (K : ℕ → List ℕ → Type 0) : Type 0 where
  pub never : (n : ℕ) (us ys : List ℕ) → Ends z us → length us < n → K n (us ++ b ∷ ys) → ⊥

rare_of : (z b : ℕ) (K : ℕ → List ℕ → Type 0) → Shuts z K → Rare z b K
rare_of z b K s = record { never = λ n us ys e lt h. s.never n us (b ∷ ys) e (omega arith) h }

rare_or : (z b : ℕ) (A B : ℕ → List ℕ → Type 0) → Rare z b A → Rare z b B → Rare z b (Or A B)
rare_or z b A B r s = record { never = never }
  where
    never : (n : ℕ) (us ys : List ℕ) → Ends z us → length us < n → Or A B n (us ++ b ∷ ys) → ⊥
    never n us ys e lt (inl h) = r.never n us ys e lt h
    never n us ys e lt (inr h) = s.never n us ys e lt h

rare_one : (z b : ℕ) (p : ℕ → Bool) (K : ℕ → List ℕ → Type 0) → ((n : ℕ) (ys : List ℕ) → p z ≡ true → K n (b ∷ ys) → ⊥) → Rare z b K → Rare z b (One p K)
rare_one z b p K here s = record { never = never }
  where
    never : (n : ℕ) (us ys : List ℕ) → Ends z us → length us < n → One p K n (us ++ b ∷ ys) → ⊥
    never n [] ys e lt h = e
    never zero (u ∷ us) ys e lt h = h
    never (suc n) (u ∷ []) ys e lt (t, h) = here n ys (subst (λ x. p x ≡ true) e t) h
    never (suc n) (u ∷ v ∷ us) ys e lt (t, h) = s.never n (v ∷ us) ys e (omega arith) h

rare_many : (z b : ℕ) (p : ℕ → Bool) (K : ℕ → List ℕ → Type 0) → p z ≡ false → Rare z b K → Rare z b (Many p K)
rare_many z b p K no_z s = record { never = never }
  where
    never : (n : ℕ) (us ys : List ℕ) → Ends z us → length us < n → Many p K n (us ++ b ∷ ys) → ⊥
    never n [] ys e lt h = e
    never zero (u ∷ us) ys e lt h = absurd (omega arith)
    never (suc n) (u ∷ us) ys e lt (inl h) = s.never (suc n) (u ∷ us) ys e lt h
    never (suc n) (u ∷ []) ys e lt (inr (t, h)) = let f : p z ≡ true = subst (λ x. p x ≡ true) e t in cc
    never (suc n) (u ∷ v ∷ us) ys e lt (inr (t, h)) = never n (v ∷ us) ys e (omega arith) h

no_float_digits : (b : ℕ) → is_digit b ≡ false → (n : ℕ) (ys : List ℕ) → FloatDigits n (b ∷ ys) → ⊥
no_float_digits b e zero ys h = h
no_float_digits b e (suc n) ys (t, h) = cc

rare_exponent : (z b : ℕ) → is_part z ≡ false → is_digit b ≡ false → Rare z b Exponent
rare_exponent z b e d =
    rare_one z b is_exponent (Maybe is_sign FloatDigits) (λ n ys t h. let f = part_exponent z e in cc)
    (rare_or z b FloatDigits (One is_sign FloatDigits) (rare_of z b FloatDigits (shuts_float_digits z e))
    (rare_one z b is_sign FloatDigits (λ n ys t h. no_float_digits b d n ys h) (rare_of z b FloatDigits (shuts_float_digits z e))))

rare_fraction : (z b : ℕ) → is_part z ≡ false → is_digit b ≡ false → Rare z b Fraction
rare_fraction z b e d =
    rare_many z b is_digit (Or FloatEnd Exponent) (part_digit z e) (rare_or z b FloatEnd Exponent (rare_of z b FloatEnd (shuts_float_end z e)) (rare_exponent z b e d))

-- digits and a point
dotted : (z b : ℕ) → is_part z ≡ false → is_digit b ≡ false → (n : ℕ) (us ys : List ℕ) → Ends z us → length us < n → Many is_digit After n (us ++ b ∷ ys) → Many is_digit After (length us) (us ++ b ∷ ys)
dotted z b e d n [] ys f lt h = absurd f
dotted z b e d zero (u ∷ us) ys f lt h = absurd (omega arith)
dotted z b e d (suc n) (u ∷ []) ys f lt (inl (inl (t, h))) = inl (inl (t, inl (inl refl)))
dotted z b e d (suc n) (u ∷ v ∷ us) ys f lt (inl (inl (t, h))) = absurd ((rare_fraction z b e d).never n (v ∷ us) ys f (omega arith) h)
dotted z b e d (suc n) (u ∷ us) ys f lt (inl (inr (inl h))) = absurd ((rare_exponent z b e d).never (suc n) (u ∷ us) ys f lt h)
dotted z b e d (suc n) (u ∷ us) ys f lt (inl (inr (inr (t, h)))) = absurd (omega arith)
dotted z b e d (suc n) (u ∷ []) ys f lt (inr (t, h)) = let g : is_digit z ≡ true = subst (λ x. is_digit x ≡ true) f t in let k = part_digit z e in absurd (cc)
dotted z b e d (suc n) (u ∷ v ∷ us) ys f lt (inr (t, h)) = inr (t, dotted z b e d n (v ∷ us) ys f (omega arith) h)

pub floating_dot : (z b : ℕ) → is_part z ≡ false → is_digit b ≡ false → (n : ℕ) (us ys : List ℕ) → Ends z us → length us < n → IsFloating n (us ++ b ∷ ys) → IsFloating (length us) (us ++ b ∷ ys)
floating_dot z b e d n [] ys f lt h = absurd f
floating_dot z b e d zero (u ∷ us) ys f lt h = absurd (omega arith)
floating_dot z b e d (suc n) (u ∷ []) ys f lt (inl (t, h)) = let g : is_digit z ≡ true = subst (λ x. is_digit x ≡ true) f t in let k = part_digit z e in absurd (cc)
floating_dot z b e d (suc n) (u ∷ v ∷ us) ys f lt (inl (t, h)) = inl (t, dotted z b e d n (v ∷ us) ys f (omega arith) h)
floating_dot z b e d (suc zero) (u ∷ []) ys f lt (inr (t, h)) = absurd (omega arith)
floating_dot z b e d (suc (suc n)) (u ∷ []) ys f lt (inr (t, h)) = let g = h.0 in absurd (cc)
floating_dot z b e d (suc n) (u ∷ v ∷ us) ys f lt (inr (t, h)) =
    absurd ((rare_one z b is_digit Fraction (λ n ys t h. let k = part_digit z e in cc) (rare_fraction z b e d)).never n (v ∷ us) ys f (omega arith) h)
