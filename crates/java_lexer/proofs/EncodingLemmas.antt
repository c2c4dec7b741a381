-- The first place at which a text is not UTF-8 or has a Unicode escape.
use Rattle.std.proofs.Common.{◌≡◌, ◌≤◌, ◌<◌, ℕ, zero, suc, ◌+◌, ◌==◌, Bool, true, false, not, cond, ◌&&◌, List, [], ◌∷◌, length, ◌⊎◌, inl, inr, Option, Some, None, refl, ap, sym, subst, arith, add-one, min}
use Rattle.std.proofs.lemmas.Bool.Decides.{nat_tests}
use Rattle.std.proofs.Math.Seq.{take-length}
use Rattle.std.specs.Option.{unwrap_or}
use Rattle.std.specs.Str.{IsUtf8, IsValidUpTo}
use Rattle.std.specs.Prelude.{MatchOption}
use Rattle.java_lexer.specs.Bytes.{head, is_backslash}
use Rattle.java_lexer.specs.Encoding.{IsEscapeAt, IsPlain, IsOddAt, IsFirstOdd}
use Rattle.java_lexer.specs.Scan.{more, begins_escape, first_escape}

-- ---- escapes

-- the first escape, or none
abbrev pub Escapes : Bool → List ℕ → Option ℕ → Type 0
Escapes odd bs None = (at : ℕ) → IsEscapeAt odd bs at → ⊥
Escapes odd bs (Some n) = IsEscapeAt odd bs n × ((m : ℕ) → m < n → IsEscapeAt odd bs m → ⊥)

begins : (odd : Bool) (b : ℕ) (bs : List ℕ) → begins_escape odd b bs ≡ true → IsEscapeAt odd (b ∷ bs) 0
begins false b bs e = by_test _ refl e
  where
    by_test : (t : Bool) → is_backslash b ≡ t → (t && (head bs == 117)) ≡ true → (false ≡ false) × (is_backslash b ≡ true) × (head bs ≡ 117)
    by_test true f g = (refl, f, grind (arith, nat_tests))
    by_test false f g = absurd (cc)
begins true b bs e = absurd (cc)

begins_not : (odd : Bool) (b : ℕ) (bs : List ℕ) → begins_escape odd b bs ≡ false → IsEscapeAt odd (b ∷ bs) 0 → ⊥
begins_not true b bs e h = cc
begins_not false b bs e h = let u : (head bs == 117) ≡ true = rw (h.2) refl in let t : begins_escape false b bs ≡ true = rw (h.1, u) refl in cc

escapes_more : (odd : Bool) (b : ℕ) (bs : List ℕ) (o : Option ℕ) → begins_escape odd b bs ≡ false → Escapes (is_backslash b && not odd) bs o → Escapes odd (b ∷ bs) (more 1 o)
escapes_more odd b bs None e h = none
  where
    none : (at : ℕ) → IsEscapeAt odd (b ∷ bs) at → ⊥
    none zero x = begins_not odd b bs e x
    none (suc at) x = h at x
escapes_more odd b bs (Some n) e h = (rw add-one h.0, earlier)
  where
    earlier : (m : ℕ) → m < n + 1 → IsEscapeAt odd (b ∷ bs) m → ⊥
    earlier zero lt x = begins_not odd b bs e x
    earlier (suc m) lt x = h.1 m (omega arith) x

pub escapes : (odd : Bool) (bs : List ℕ) → Escapes odd bs (first_escape odd bs)
escapes odd [] = λ at h. h
escapes odd (b ∷ bs) = by_test _ refl (escapes (is_backslash b && not odd) bs)
  where
    by_test : (t : Bool) → begins_escape odd b bs ≡ t → Escapes (is_backslash b && not odd) bs (first_escape (is_backslash b && not odd) bs)
        → Escapes odd (b ∷ bs) (cond t (Some 0) (more 1 (first_escape (is_backslash b && not odd) bs)))
    by_test true e h = (begins odd b bs e, λ m lt x. absurd (omega arith))
    by_test false e h = escapes_more odd b bs (first_escape (is_backslash b && not odd) bs) e h

-- ---- UTF-8

pub no_end : (bs : List ℕ) (n : ℕ) → IsUtf8 bs → IsValidUpTo bs n → ⊥
no_end bs n u v = v.longest (length bs) v.short (subst IsUtf8 (sym (take-length bs)) u)

no_earlier : (bs : List ℕ) (m n : ℕ) → m < n → IsValidUpTo bs n → IsValidUpTo bs m → ⊥
no_earlier bs m n lt v w = w.longest n lt v.front

-- ---- both

pub plain_place : (bs : List ℕ) (o : Option ℕ) → IsUtf8 bs → Escapes false bs o → MatchOption o (IsPlain bs) (λ n. IsFirstOdd bs n)
plain_place bs None u h = record { utf8 = u; no_escape = h }
plain_place bs (Some n) u h = (inr h.0, earlier)
  where
    earlier : (m : ℕ) → m < n → IsOddAt bs m → ⊥
    earlier m lt (inl v) = no_end bs m u v
    earlier m lt (inr x) = h.1 m lt x

pub odd_place : (bs : List ℕ) (n : ℕ) (o : Option ℕ) → IsValidUpTo bs n → Escapes false bs o → IsFirstOdd bs (min n (unwrap_or o n))
odd_place bs n None v h = let same : n ≡ min n n = omega arith in subst (IsFirstOdd bs) same (inl v, earlier)
  where
    earlier : (m : ℕ) → m < n → IsOddAt bs m → ⊥
    earlier m lt (inl w) = no_earlier bs m n lt v w
    earlier m lt (inr x) = h m x
odd_place bs n (Some k) v h = by_order (nat_or n k)
  where
    nat_or : (n k : ℕ) → (n ≤ k) ⊎ (k < n)
    nat_or zero k = inl (omega arith)
    nat_or (suc n) zero = inr (omega arith)
    nat_or (suc n) (suc k) = step (nat_or n k)
      where
        step : (n ≤ k) ⊎ (k < n) → (suc n ≤ suc k) ⊎ (suc k < suc n)
        step (inl le) = inl (omega arith)
        step (inr lt) = inr (omega arith)

    before : n ≤ k → (m : ℕ) → m < n → IsOddAt bs m → ⊥
    before le m lt (inl w) = no_earlier bs m n lt v w
    before le m lt (inr x) = h.1 m (omega arith) x

    ahead : k < n → (m : ℕ) → m < k → IsOddAt bs m → ⊥
    ahead le m lt (inl w) = no_earlier bs m n (omega arith) v w
    ahead le m lt (inr x) = h.1 m lt x

    by_order : (n ≤ k) ⊎ (k < n) → IsFirstOdd bs (min n k)
    by_order (inl le) = let same : n ≡ min n k = omega arith in subst (IsFirstOdd bs) same (inl v, before le)
    by_order (inr lt) = let same : k ≡ min n k = omega arith in subst (IsFirstOdd bs) same (inr h.0, ahead lt)

-- there is one first place
pub first_odd_one : (bs : List ℕ) (m n : ℕ) → IsFirstOdd bs m → IsFirstOdd bs n → m ≡ n
first_odd_one bs m n x y = by_order (order m n)
  where
    order : (m n : ℕ) → (m ≡ n) ⊎ (m < n) ⊎ (n < m)
    order zero zero = inl refl
    order zero (suc n) = inr (inl (omega arith))
    order (suc m) zero = inr (inr (omega arith))
    order (suc m) (suc n) = step (order m n)
      where
        step : (m ≡ n) ⊎ (m < n) ⊎ (n < m) → (suc m ≡ suc n) ⊎ (suc m < suc n) ⊎ (suc n < suc m)
        step (inl e) = inl (ap suc e)
        step (inr (inl lt)) = inr (inl (omega arith))
        step (inr (inr lt)) = inr (inr (omega arith))

    by_order : (m ≡ n) ⊎ (m < n) ⊎ (n < m) → m ≡ n
    by_order (inl e) = e
    by_order (inr (inl lt)) = absurd (y.1 m lt x.0)
    by_order (inr (inr lt)) = absurd (x.1 n lt y.0)

pub plain_not_odd : (bs : List ℕ) (n : ℕ) → IsPlain bs → IsFirstOdd bs n → ⊥
plain_not_odd bs n p x = by_case x.0
  where
    by_case : IsOddAt bs n → ⊥
    by_case (inl v) = no_end bs n p.utf8 v
    by_case (inr e) = p.no_escape n e
