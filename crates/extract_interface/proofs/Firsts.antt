-- What is so of none, or of each, of the first items of a list.
use Rattle.std.proofs.Common.{◌≡◌, ℕ, ◌+◌, ◌<◌, ◌≤◌, List, length, Some, slice_get, below_more, sym, ap, ◌∙◌, subst, arith}
use Rattle.std.specs.Prelude.{Contains}
use Rattle.std.proofs.lemmas.Option.{get_or_from_slice_get, slice_get-get_or, slice_get_within}

-- an item is in the list
pub one_at : {A : Type 0} (xs : List A) (k : ℕ) (y : A) → slice_get xs k ≡ Some y → Contains xs y
one_at xs k y at = (k, slice_get_within xs k y at, get_or_from_slice_get xs k y y at)

pub at_one : {A : Type 0} (xs : List A) (y : A) (h : Contains xs y) → slice_get xs h.0 ≡ Some y
at_one xs y h = slice_get-get_or xs h.0 y h.1 ∙ ap Some h.2

-- each of the first items, so many
abbrev pub AreEach : {A : Type 0} → (A → Type 0) → List A → ℕ → Type 0
AreEach {A} P xs n = (k : ℕ) → k < n → (x : A) → slice_get xs k ≡ Some x → P x

pub each_next : {A : Type 0} (P : A → Type 0) (xs : List A) (n : ℕ) (y : A) → slice_get xs n ≡ Some y → P y → AreEach P xs n → AreEach P xs (n + 1)
each_next {A} P xs n y at here first =
    below_more (λ k. (x : A) → slice_get xs k ≡ Some x → P x) n first (λ x h. let both : Some y ≡ Some x = sym at ∙ h in let same : y ≡ x = cc in subst P same here)

pub each_all : {A : Type 0} (P : A → Type 0) (xs : List A) (n : ℕ) → length xs ≤ n → AreEach P xs n → (x : A) → Contains xs x → P x
each_all P xs n all first x h = first h.0 (omega (arith, h.1, all)) x (at_one xs x h)

-- none of them
abbrev pub AreNone : {A : Type 0} → (A → Type 0) → List A → ℕ → Type 0
AreNone P xs n = AreEach (λ x. P x → ⊥) xs n
