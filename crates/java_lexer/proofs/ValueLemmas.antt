-- Values of literals.
use Rattle.std.proofs.Common.{◌≡◌, ◌≤◌, ◌<◌, ℕ, zero, suc, ◌+◌, ◌*◌, ◌^◌, Bool, true, false, cond, List, [], ◌∷◌, ◌++◌, length, take, drop, get_or, Some, None, refl, ap, sym, ◌∙◌, arith, min, nat_lt}
use Rattle.std.proofs.lemmas.Bool.Decides.{nat_tests}
use Rattle.std.proofs.lemmas.List.{length-take}
use Rattle.std.specs.Char.{digit_value}
use Rattle.std.specs.List.{prefix_len}
use Rattle.java_lexer.specs.Bytes.{head, is_long, is_octal, is_up_to_three}
use Rattle.java_lexer.specs.Values.{written, in_u64, octal_len, units}

pub in_u64_some : (n : ℕ) → n < 2 ^ 64 → in_u64 n ≡ Some n
in_u64_some n lt = let t : nat_lt n (2 ^ 64) ≡ true = grind (arith, nat_tests) in rw t refl

pub in_u64_none : (n : ℕ) → 2 ^ 64 ≤ n → in_u64 n ≡ None
in_u64_none n le = let t : nat_lt n (2 ^ 64) ≡ false = grind (arith, nat_tests) in rw t refl

pub none_above : (n : ℕ) → in_u64 n ≡ None → 2 ^ 64 ≤ n
none_above n e = by_test _ refl e
  where
    by_test : (t : Bool) → nat_lt n (2 ^ 64) ≡ t → cond t (Some n) None ≡ None → 2 ^ 64 ≤ n
    by_test true f g = absurd (cc)
    by_test false f g = grind (arith, nat_tests)

pub some_same : (m n : ℕ) → in_u64 m ≡ Some n → m ≡ n
some_same m n e = by_test _ refl e
  where
    by_test : (t : Bool) → nat_lt m (2 ^ 64) ≡ t → cond t (Some m) None ≡ Some n → m ≡ n
    by_test true f g = cc
    by_test false f g = absurd (cc)

pub written_le : (base n : ℕ) (bs : List ℕ) → 0 < base → n ≤ written base n bs
written_le base n [] some = omega arith
written_le base n (b ∷ bs) some = by_test (is_long b) (written_le base (n * base + digit_value b) bs some)
  where
    grows : n ≤ n * base
    grows = grind arith

    by_test : (t : Bool) → n * base + digit_value b ≤ written base (n * base + digit_value b) bs → n ≤ cond t n (written base (n * base + digit_value b) bs)
    by_test true le = omega arith
    by_test false le = let g = grows in omega arith

-- past 64 bits it stays so
pub written_over : (base n : ℕ) (bs : List ℕ) → 0 < base → 0 < length bs → is_long (get_or bs 0 0) ≡ false → in_u64 (n * base + digit_value (get_or bs 0 0)) ≡ None
    → None ≡ in_u64 (written base n bs)
written_over base n [] some full plain e = absurd (omega arith)
written_over base n (b ∷ bs) some full plain e =
    let over = none_above (n * base + digit_value b) e in
    let le = written_le base (n * base + digit_value b) bs some in
    let same : written base n (b ∷ bs) ≡ written base (n * base + digit_value b) bs = rw plain refl in
    sym (in_u64_none (written base n (b ∷ bs)) (omega arith))

-- three digits of base 8, whatever they are

digit_small : (b : ℕ) → digit_value b ≤ 36
digit_small b = grind (arith, nat_tests)

written_none : (n : ℕ) (bs : List ℕ) → length bs ≤ 0 → n < 65536 → written 8 n bs < 65536
written_none n [] e lt = lt
written_none n (b ∷ bs) e lt = absurd (omega arith)

written_one : (n : ℕ) (bs : List ℕ) → length bs ≤ 1 → n ≤ 8000 → written 8 n bs < 65536
written_one n [] e lt = omega arith
written_one n (b ∷ bs) e lt = let d = digit_small b in by_test (is_long b) (written_none (n * 8 + digit_value b) bs (omega arith) (omega arith))
  where
    by_test : (t : Bool) → written 8 (n * 8 + digit_value b) bs < 65536 → cond t n (written 8 (n * 8 + digit_value b) bs) < 65536
    by_test true x = omega arith
    by_test false x = x

written_two : (n : ℕ) (bs : List ℕ) → length bs ≤ 2 → n ≤ 900 → written 8 n bs < 65536
written_two n [] e lt = omega arith
written_two n (b ∷ bs) e lt = let d = digit_small b in by_test (is_long b) (written_one (n * 8 + digit_value b) bs (omega arith) (omega arith))
  where
    by_test : (t : Bool) → written 8 (n * 8 + digit_value b) bs < 65536 → cond t n (written 8 (n * 8 + digit_value b) bs) < 65536
    by_test true x = omega arith
    by_test false x = x

written_three : (n : ℕ) (bs : List ℕ) → length bs ≤ 3 → n ≤ 100 → written 8 n bs < 65536
written_three n [] e lt = omega arith
written_three n (b ∷ bs) e lt = let d = digit_small b in by_test (is_long b) (written_two (n * 8 + digit_value b) bs (omega arith) (omega arith))
  where
    by_test : (t : Bool) → written 8 (n * 8 + digit_value b) bs < 65536 → cond t n (written 8 (n * 8 + digit_value b) bs) < 65536
    by_test true x = omega arith
    by_test false x = x

octal_three : (bs : List ℕ) → octal_len bs ≤ 3
octal_three bs = by_test (is_up_to_three (head bs))
  where
    by_test : (t : Bool) → min (cond t 3 2) (prefix_len is_octal bs) ≤ 3
    by_test true = omega arith
    by_test false = omega arith

pub escape_small : (bs : List ℕ) → written 8 0 (take (octal_len bs) bs) < 65536
escape_small bs = let le = octal_three bs in written_three 0 (take (octal_len bs) bs) (omega (arith, length-take (octal_len bs) bs)) (omega arith)

-- ---- units

pub units_drop : (n : ℕ) (bs : List ℕ) → units n bs ≡ units 0 (drop n bs)
units_drop zero bs = refl
units_drop (suc n) [] = refl
units_drop (suc n) (b ∷ bs) = units_drop n bs

-- one turn of the loop over a string
pub units_turn : (w done more rest later : List ℕ) (n : ℕ) → later ≡ drop 1 rest → 0 < length rest → units 0 (drop 1 w) ≡ done ++ units 0 rest
    → done ++ units 0 (get_or rest 0 0 ∷ later) ≡ more ++ units n later → units 0 (drop 1 w) ≡ more ++ units 0 (drop n later)
units_turn w done more [] later n l some e f = absurd (omega arith)
units_turn w done more (b ∷ rest) later n l some e f =
    e ∙ ap (λ (bs : List ℕ). done ++ units 0 (b ∷ bs)) (sym l) ∙ f ∙ ap (λ (us : List ℕ). more ++ us) (units_drop n later)
