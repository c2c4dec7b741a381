-- The first elements of a list.
use Rattle.std.proofs.Common.{◌≡◌, ℕ, ◌+◌, ◌<◌, ◌≤◌, zero, suc, List, [], ◌∷◌, ◌++◌, Some, ◌⊎◌, inl, inr, ◌↔◌, refl, sym, ap, ◌∙◌, subst, length, arith}
use Rattle.std.specs.Prelude.{slice_get}
use Rattle.std.specs.List.{Contains}
use Rattle.std.proofs.lemmas.Option.{slice_get_within, slice_get-get_or, get_or_from_slice_get}
use Rattle.numbered_methods.specs.Added.{IsOnce}

pub at_contains : (xs : List ℕ) (i x : ℕ) → slice_get xs i ≡ Some x → Contains xs x
at_contains xs i x at = (i, slice_get_within xs i x at, get_or_from_slice_get xs i x x at)

pub contains_at : (xs : List ℕ) (x : ℕ) → Contains xs x → (i : ℕ) × (slice_get xs i ≡ Some x)
contains_at xs x h = (h.0, slice_get-get_or xs h.0 x h.1 ∙ ap Some h.2)

pub none_in : (xs : List ℕ) (x : ℕ) → xs ≡ [] → Contains xs x → ⊥
none_in xs x empty h = let k : Contains [] x = subst (λ l. Contains l x) empty h in absurd (omega (arith, k.1))

-- one of the first i
abbrev pub Among : List ℕ → ℕ → ℕ → Type 0
Among xs i x = (k : ℕ) × (k < i) × (slice_get xs k ≡ Some x)

low_or_last : (j i : ℕ) → j < i + 1 → (j < i) ⊎ (j ≡ i)
low_or_last j i h = grind (arith, h)

pub among_none : (xs : List ℕ) (x : ℕ) → Among xs 0 x → ⊥
among_none xs x h = let lt = h.1 in absurd (omega (arith, lt))

pub among_next : (xs : List ℕ) (i x y : ℕ) → slice_get xs i ≡ Some y → Among xs (i + 1) x ↔ (Among xs i x ⊎ (x ≡ y))
among_next xs i x y at = (
  λ h. elim (low_or_last h.0 i h.1) [
    | inl lt ↦ inl (h.0, lt, h.2)
    | inr last ↦ inr (let both : Some x ≡ Some y = sym h.2 ∙ ap (slice_get xs) last ∙ at in cc both)
  ],
  λ h. elim h [ inl low ↦ (low.0, (let lt = low.1 in omega (arith, lt)), low.2) | inr same ↦ (i, (omega arith), at ∙ ap Some (sym same)) ],
)

pub among_all : (xs : List ℕ) (i x : ℕ) → length xs ≤ i → Among xs i x ↔ Contains xs x
among_all xs i x full = (
  λ h. at_contains xs h.0 x h.2,
  λ h. let at = contains_at xs x h in (at.0, (let lt = slice_get_within xs at.0 x at.1 in omega (arith, lt, full)), at.1),
)

pub once_new : (xs : List ℕ) (i x : ℕ) → IsOnce xs → slice_get xs i ≡ Some x → Among xs i x → ⊥
once_new xs i x once at h = let same : h.0 ≡ i = once h.0 i x h.2 at in let lt = h.1 in absurd (omega (arith, lt, same))

pub once_none : (xs : List ℕ) → xs ≡ [] → IsOnce xs
once_none xs empty i j x at = let k = none_in xs x empty (at_contains xs i x at) in absurd k

-- what a longer list has at a place
first_or_last : (xs : List ℕ) (x y k : ℕ) → slice_get (xs ++ x ∷ []) k ≡ Some y → (slice_get xs k ≡ Some y) ⊎ ((k ≡ length xs) × (y ≡ x))
first_or_last [] x y zero e = let h : x ≡ y = cc e in inr (refl, sym h)
first_or_last [] x y (suc k) e = absurd (cc e)
first_or_last (z ∷ zs) x y zero e = inl e
first_or_last (z ∷ zs) x y (suc k) e = elim (first_or_last zs x y k e) [ inl low ↦ inl low | inr last ↦ inr (ap suc last.0, last.1) ]

pub once_push : (xs new : List ℕ) (x : ℕ) → IsOnce xs → (Contains xs x → ⊥) → new ≡ xs ++ x ∷ [] → IsOnce new
once_push xs new x once fresh made i j y at there =
    let a = first_or_last xs x y i (ap (λ l. slice_get l i) (sym made) ∙ at) in
    let b = first_or_last xs x y j (ap (λ l. slice_get l j) (sym made) ∙ there) in
    elim a [
      | inl low ↦ elim b [
        | inl low' ↦ once i j y low low'
        | inr last ↦ absurd (fresh (subst (Contains xs) last.1 (at_contains xs i y low)))
      ]
      | inr last ↦ elim b [
        | inl low ↦ absurd (fresh (subst (Contains xs) last.1 (at_contains xs j y low)))
        | inr last' ↦ last.0 ∙ sym last'.0
      ]
    ]
