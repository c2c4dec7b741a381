-- The lowest number of a set.
use Rattle.std.proofs.Common.{◌≡◌, ℕ, ◌+◌, ◌<◌, ◌≤◌, Option, None, Some, ◌⊎◌, inl, inr, ◌↔◌, refl, sym, ap, ◌∙◌, subst, min, arith}
use Rattle.override_rules.specs.Judged.{IsLowest, lower_of}

-- there is one, and it is not above r
abbrev pub IsAtMost : Option ℕ → ℕ → Type 0
IsAtMost o r = (q : ℕ) × (o ≡ Some q) × (q ≤ r)

pub lowest_at_most : (P : ℕ → Type 0) (o : Option ℕ) (r : ℕ) → IsLowest P o → P r → IsAtMost o r
lowest_at_most P None r h p = absurd (h r p)
lowest_at_most P (Some q) r h p = (q, refl, h.1 r p)

pub lowest_in : (P : ℕ → Type 0) (o : Option ℕ) (q : ℕ) → IsLowest P o → o ≡ Some q → P q
lowest_in P None q h e = absurd (cc e)
lowest_in P (Some r) q h e = let same : r ≡ q = cc e in subst P same h.0

pub at_most_left : (a b : Option ℕ) (r : ℕ) → IsAtMost a r → IsAtMost (lower_of a b) r
at_most_left None b r h = absurd (cc (h.1))
at_most_left (Some x) None r h = h
at_most_left (Some x) (Some y) r h = let same : x ≡ h.0 = cc (h.1) in (min x y, refl, omega (arith, same, h.2))

pub at_most_right : (a b : Option ℕ) (r : ℕ) → IsAtMost b r → IsAtMost (lower_of a b) r
at_most_right None b r h = h
at_most_right (Some x) None r h = absurd (cc (h.1))
at_most_right (Some x) (Some y) r h = let same : y ≡ h.0 = cc (h.1) in (min x y, refl, omega (arith, same, h.2))

min_cases : (x y : ℕ) → (min x y ≡ x) ⊎ (min x y ≡ y)
min_cases x y = grind arith

pub lower_cases : (a b : Option ℕ) (q : ℕ) → lower_of a b ≡ Some q → (a ≡ Some q) ⊎ (b ≡ Some q)
lower_cases None b q e = inr e
lower_cases (Some x) None q e = inl e
lower_cases (Some x) (Some y) q e =
    let is : min x y ≡ q = cc e in
    elim (min_cases x y) [ inl h ↦ inl (ap Some (sym h ∙ is)) | inr h ↦ inr (ap Some (sym h ∙ is)) ]

-- what is at most each number of a set, and in it, is its lowest
pub lowest_from : (P : ℕ → Type 0) (o : Option ℕ) → ((q : ℕ) → o ≡ Some q → P q) → ((r : ℕ) → P r → (IsAtMost o r → ⊥) → ⊥) → IsLowest P o
lowest_from P None found least = λ r p. least r p (λ h. let never = h.1 in cc never)
lowest_from P (Some q) found least = (found q refl, λ r p. go r p (q_or r))
  where
    q_or : (r : ℕ) → (q ≤ r) ⊎ (r < q)
    q_or r = grind arith

    go : (r : ℕ) → P r → (q ≤ r) ⊎ (r < q) → q ≤ r
    go r p (inl le) = le
    go r p (inr lt) = absurd (least r p (λ h. let same : q ≡ h.0 = cc (h.1) in omega (arith, same, lt, h.2)))

pub lowest_alike : (P Q : ℕ → Type 0) (o : Option ℕ) → ((r : ℕ) → P r ↔ Q r) → IsLowest P o → IsLowest Q o
lowest_alike P Q None same h = λ r q. h r ((same r).1 q)
lowest_alike P Q (Some x) same h = ((same x).0 h.0, λ r q. h.1 r ((same r).1 q))

-- ---- one set after the other

abbrev pub UpTo : ℕ → (ℕ → ℕ → Type 0) → ℕ → Type 0
UpTo n P r = (j : ℕ) × (j < n) × P j r

pub low_or_last : (j n : ℕ) → j < n + 1 → (j < n) ⊎ (j ≡ n)
low_or_last j n h = grind (arith, h)

pub lowest_more : (P : ℕ → ℕ → Type 0) (n : ℕ) (a b : Option ℕ) → IsLowest (UpTo n P) a → IsLowest (P n) b → IsLowest (UpTo (n + 1) P) (lower_of a b)
lowest_more P n a b before here = lowest_from (UpTo (n + 1) P) (lower_of a b)
    (λ q e. elim (lower_cases a b q e) [
      | inl first ↦ let h = lowest_in (UpTo n P) a q before first in (h.0, omega (arith, h.1), h.2)
      | inr next ↦ (n, omega arith, lowest_in (P n) b q here next)
    ])
    (λ r h no. no (elim (low_or_last h.0 n h.1) [
      | inl lt ↦ at_most_left a b r (lowest_at_most (UpTo n P) a r before (h.0, lt, h.2))
      | inr last ↦ at_most_right a b r (lowest_at_most (P n) b r here (subst (λ j. P j r) last h.2))
    ]))
