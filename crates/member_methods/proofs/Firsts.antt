-- What is said of the first elements of a list.
use Rattle.std.proofs.Common.{◌≡◌, ℕ, ◌+◌, ◌<◌, ◌≤◌, List, [], ◌∷◌, ◌++◌, Some, ◌⊎◌, inl, inr, ◌↔◌, sym, ap, ◌∙◌, subst, length, arith}
use Rattle.std.specs.Prelude.{slice_get}
use Rattle.std.specs.List.{Contains}
use Rattle.std.proofs.lemmas.Option.{slice_get_within, slice_get-get_or, get_or_from_slice_get}
use Rattle.std.proofs.lemmas.List.Elements.{Contains-append_left, Contains-push, Contains-push_cases}

pub at_contains : {A : Type 0} (xs : List A) (i : ℕ) (x : A) → slice_get xs i ≡ Some x → Contains xs x
at_contains xs i x at = (i, slice_get_within xs i x at, get_or_from_slice_get xs i x x at)

pub contains_at : {A : Type 0} (xs : List A) (x : A) → Contains xs x → (i : ℕ) × (slice_get xs i ≡ Some x)
contains_at xs x h = (h.0, slice_get-get_or xs h.0 x h.1 ∙ ap Some h.2)

pub low_or_last : (j i : ℕ) → j < i + 1 → (j < i) ⊎ (j ≡ i)
low_or_last j i h = grind (arith, h)

-- one of the first i
abbrev pub Among : {A : Type 0} → List A → ℕ → A → Type 0
Among xs i x = (k : ℕ) × (k < i) × (slice_get xs k ≡ Some x)

pub among_none : {A : Type 0} (xs : List A) (x : A) → Among xs 0 x → ⊥
among_none xs x h = omega (arith, h.1)

pub among_last : {A : Type 0} (xs : List A) (i : ℕ) (x : A) → slice_get xs i ≡ Some x → Among xs (i + 1) x
among_last xs i x at = (i, (omega arith), at)

pub among_more : {A : Type 0} (xs : List A) (i : ℕ) (x : A) → Among xs i x → Among xs (i + 1) x
among_more xs i x h = (h.0, (let lt = h.1 in omega (arith, lt)), h.2)

pub among_cases : {A : Type 0} (xs : List A) (i : ℕ) (x y : A) → slice_get xs i ≡ Some y → Among xs (i + 1) x → Among xs i x ⊎ (x ≡ y)
among_cases xs i x y at h = elim (low_or_last h.0 i h.1) [
  | inl lt ↦ inl (h.0, lt, h.2)
  | inr last ↦ inr (let both : Some x ≡ Some y = sym h.2 ∙ ap (slice_get xs) last ∙ at in cc both)
]

pub among_all : {A : Type 0} (xs : List A) (i : ℕ) (x : A) → length xs ≤ i → Contains xs x → Among xs i x
among_all xs i x full h = let at = contains_at xs x h in (at.0, (let lt = slice_get_within xs at.0 x at.1 in omega (arith, lt, full)), at.1)

pub among_contains : {A : Type 0} (xs : List A) (i : ℕ) (x : A) → Among xs i x → Contains xs x
among_contains xs i x h = at_contains xs h.0 x h.2

-- of the first i, those of which P holds
abbrev pub Keeps : (ℕ → Type 0) → List ℕ → List ℕ → ℕ → Type 0
Keeps P xs out i = (m : ℕ) → Contains out m ↔ (Among xs i m × P m)

pub push_kept : (P : ℕ → Type 0) (xs out new : List ℕ) (i y : ℕ) → Keeps P xs out i → slice_get xs i ≡ Some y → P y → new ≡ out ++ y ∷ [] → Keeps P xs new (i + 1)
push_kept P xs out new i y kept at holds made m = subst (λ l. Contains l m ↔ (Among xs (i + 1) m × P m)) (sym made) (
  λ h. elim (Contains-push_cases out y m h) [
    | inl old ↦ let k = (kept m).0 old in (among_more xs i m k.0, k.1)
    | inr same ↦ (subst (Among xs (i + 1)) same (among_last xs i y at), subst P same holds)
  ],
  λ h. elim (among_cases xs i m y at h.0) [
    | inl old ↦ Contains-append_left out (y ∷ []) m ((kept m).1 (old, h.1))
    | inr same ↦ subst (Contains (out ++ y ∷ [])) (sym same) (Contains-push out y)
  ],
)

pub skip_kept : (P : ℕ → Type 0) (xs out : List ℕ) (i y : ℕ) → Keeps P xs out i → slice_get xs i ≡ Some y → (P y → ⊥) → Keeps P xs out (i + 1)
skip_kept P xs out i y kept at not m = (
  λ h. let k = (kept m).0 h in (among_more xs i m k.0, k.1),
  λ h. elim (among_cases xs i m y at h.0) [
    | inl old ↦ (kept m).1 (old, h.1)
    | inr same ↦ absurd (not (subst P same h.1))
  ],
)

pub all_kept : (P : ℕ → Type 0) (xs out : List ℕ) (i : ℕ) → length xs ≤ i → Keeps P xs out i → (m : ℕ) → Contains out m ↔ (Contains xs m × P m)
all_kept P xs out i full kept m = (
  λ h. let k = (kept m).0 h in (among_contains xs i m k.0, k.1),
  λ h. (kept m).1 (among_all xs i m full h.0, h.1),
)

-- P holds of none of the first i
pub none_next : {A : Type 0} (P : A → Type 0) (xs : List A) (i : ℕ) (y : A) → ((x : A) → Among xs i x → P x → ⊥) → slice_get xs i ≡ Some y → (P y → ⊥) → (x : A) → Among xs (i + 1) x → P x → ⊥
none_next P xs i y none at not x h holds = elim (among_cases xs i x y at h) [
  | inl old ↦ none x old holds
  | inr same ↦ not (subst P same holds)
]
