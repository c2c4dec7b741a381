-- Elements of lists.
use Rattle.std.proofs.Common.{◌≡◌, ℕ, ◌+◌, ◌<◌, zero, suc, List, [], ◌∷◌, ◌++◌, Some, ◌⊎◌, inl, inr, ◌↔◌, refl, sym, ap, ◌∙◌, subst, length, arith}
use Rattle.std.specs.Prelude.{slice_get, Contains}
use Rattle.std.proofs.lemmas.List.Elements.{Contains-push, Contains-push_cases, Contains-append_left}
use Rattle.std.proofs.lemmas.Option.{slice_get_within, slice_get-get_or, get_or_from_slice_get}

pub contains_at : {A : Type 0} (xs : List A) (a : A) → Contains xs a → (k : ℕ) × (slice_get xs k ≡ Some a)
contains_at xs a h = (h.0, slice_get-get_or xs h.0 a h.1 ∙ ap Some h.2)

pub at_contains : {A : Type 0} (xs : List A) (k : ℕ) (a : A) → slice_get xs k ≡ Some a → Contains xs a
at_contains xs k a e = (k, slice_get_within xs k a e, get_or_from_slice_get xs k a a e)

pub none_contained : {A : Type 0} (a : A) → Contains [] a → ⊥
none_contained a h = absurd (omega (arith, h.1))

-- one more in front
pub front_cases : {A : Type 0} (x : A) (xs : List A) (a : A) → Contains (x ∷ xs) a → (a ≡ x) ⊎ Contains xs a
front_cases x xs a h = let at = contains_at (x ∷ xs) a h in split at.0 at.1
  where
    split : (k : ℕ) → slice_get (x ∷ xs) k ≡ Some a → (a ≡ x) ⊎ Contains xs a
    split zero e = let s : x ≡ a = cc e in inl (sym s)
    split (suc k) e = inr (at_contains xs k a e)

pub contains_first : {A : Type 0} (x : A) (xs : List A) → Contains (x ∷ xs) x
contains_first x xs = at_contains (x ∷ xs) 0 x refl

pub contains_later : {A : Type 0} (x : A) (xs : List A) (a : A) → Contains xs a → Contains (x ∷ xs) a
contains_later x xs a h = let at = contains_at xs a h in at_contains (x ∷ xs) (suc at.0) a at.1

-- one more at the end
pub last_contained : {A : Type 0} (xs : List A) (x a : A) → Contains (xs ++ x ∷ []) a ↔ (Contains xs a ⊎ (a ≡ x))
last_contained xs x a = (
  λ h. elim (Contains-push_cases xs x a h) [ inl old ↦ inl old | inr is ↦ inr (sym is) ],
  λ h. elim h [ inl old ↦ Contains-append_left xs (x ∷ []) a old | inr is ↦ subst (Contains (xs ++ x ∷ [])) (sym is) (Contains-push xs x) ],
)

-- places

pub at_front : {A : Type 0} (xs ys : List A) (i : ℕ) (a : A) → slice_get xs i ≡ Some a → slice_get (xs ++ ys) i ≡ Some a
at_front [] ys i a e = absurd (cc e)
at_front (x ∷ xs) ys zero a e = e
at_front (x ∷ xs) ys (suc i) a e = at_front xs ys i a e

pub last_cases : {A : Type 0} (xs : List A) (x a : A) (i : ℕ) → slice_get (xs ++ x ∷ []) i ≡ Some a → (slice_get xs i ≡ Some a) ⊎ (a ≡ x)
last_cases [] x a zero e = let h : x ≡ a = cc e in inr (sym h)
last_cases [] x a (suc i) e = absurd (cc e)
last_cases (y ∷ ys) x a zero e = inl e
last_cases (y ∷ ys) x a (suc i) e = last_cases ys x a i e

pub there_is : {A : Type 0} (xs : List A) (i : ℕ) → i < length xs → (x : A) × (slice_get xs i ≡ Some x)
there_is [] i lt = absurd (omega (arith, lt))
there_is (x ∷ xs) zero lt = (x, refl)
there_is (x ∷ xs) (suc i) lt = there_is xs i (omega (arith, lt))

-- what holds of each element below a place, and of the one there
pub each_more : {A : Type 0} (P : A → Type 0) (xs : List A) (i : ℕ) (x : A) → slice_get xs i ≡ Some x → P x → ((k : ℕ) (a : A) → k < i → slice_get xs k ≡ Some a → P a)
    → (k : ℕ) (a : A) → k < i + 1 → slice_get xs k ≡ Some a → P a
each_more P xs i x here this before k a below at = elim (lower_or_last k below) [
  | inl low ↦ before k a low at
  | inr last ↦ let same : x ≡ a = let there = ap (slice_get xs) (sym last) ∙ at in cc (here, there) in subst P same this
]
  where
    lower_or_last : (k : ℕ) → k < i + 1 → (k < i) ⊎ (k ≡ i)
    lower_or_last k h = grind (arith, h)
