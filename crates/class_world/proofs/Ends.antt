-- The items of a list with one more at its end.
use Rattle.std.proofs.Common.{◌≡◌, ℕ, zero, suc, List, [], ◌∷◌, ◌++◌, Some, ◌⊎◌, inl, inr, refl, sym, ap, length}
use Rattle.std.specs.Prelude.{slice_get}

-- the last of a list
pub at_last : {A : Type 0} (xs : List A) (x : A) → slice_get (xs ++ x ∷ []) (length xs) ≡ Some x
at_last [] x = refl
at_last (y ∷ ys) x = at_last ys x

pub at_first : {A : Type 0} (xs : List A) (x y : A) (k : ℕ) → slice_get xs k ≡ Some y → slice_get (xs ++ x ∷ []) k ≡ Some y
at_first [] x y k e = absurd (cc e)
at_first (z ∷ zs) x y zero e = e
at_first (z ∷ zs) x y (suc k) e = at_first zs x y k e

pub first_or_last : {A : Type 0} (xs : List A) (x y : A) (k : ℕ) → slice_get (xs ++ x ∷ []) k ≡ Some y → (slice_get xs k ≡ Some y) ⊎ (y ≡ x)
first_or_last [] x y zero e = let h : x ≡ y = cc e in inr (sym h)
first_or_last [] x y (suc k) e = absurd (cc e)
first_or_last (z ∷ zs) x y zero e = inl e
first_or_last (z ∷ zs) x y (suc k) e = first_or_last zs x y k e

pub first_or_end : {A : Type 0} (xs : List A) (x y : A) (k : ℕ) → slice_get (xs ++ x ∷ []) k ≡ Some y → (slice_get xs k ≡ Some y) ⊎ ((y ≡ x) × (k ≡ length xs))
first_or_end [] x y zero e = let h : x ≡ y = cc e in inr (sym h, refl)
first_or_end [] x y (suc k) e = absurd (cc e)
first_or_end (z ∷ zs) x y zero e = inl e
first_or_end (z ∷ zs) x y (suc k) e = elim (first_or_end zs x y k e) [ inl h ↦ inl h | inr h ↦ inr (h.0, ap suc h.1) ]
