-- The first elements of lists, and answers of calls.
use Rattle.std.proofs.Common.{◌≡◌, ℕ, ◌+◌, ◌<◌, ◌≤◌, List, [], ◌∷◌, ◌++◌, Option, Some, None, Result, Ok, Err, IfOk, IfSome, ◌⊎◌, inl, inr, refl, sym, ap, ◌∙◌, subst, length, get_or, arith}
use Rattle.std.specs.Prelude.{slice_get}
use Rattle.std.specs.List.{Contains}
use Rattle.std.specs.List.Sorted.{IsStrictlyIncreasing}
use Rattle.std.proofs.lemmas.List.{length_push, get_or_append_left}
use Rattle.std.proofs.lemmas.List.Elements.{Contains-get_or}
use Rattle.std.proofs.lemmas.Option.{slice_get_within, slice_get-get_or, get_or_from_slice_get}
use Rattle.class_world.proofs.Ends.{at_last}

pub at_contains : {A : Type 0} (xs : List A) (i : ℕ) (x : A) → slice_get xs i ≡ Some x → Contains xs x
at_contains xs i x at = (i, slice_get_within xs i x at, get_or_from_slice_get xs i x x at)

pub contains_at : {A : Type 0} (xs : List A) (x : A) → Contains xs x → (i : ℕ) × (slice_get xs i ≡ Some x)
contains_at xs x h = (h.0, slice_get-get_or xs h.0 x h.1 ∙ ap Some h.2)

pub low_or_last : (j i : ℕ) → j < i + 1 → (j < i) ⊎ (j ≡ i)
low_or_last j i h = grind (arith, h)

pub low_or_high : (j i : ℕ) → (j < i) ⊎ (i ≤ j)
low_or_high j i = grind arith

-- one of the first i
abbrev pub Among : {A : Type 0} → List A → ℕ → A → Type 0
Among xs i x = (k : ℕ) × (k < i) × (slice_get xs k ≡ Some x)

pub among_none : {A : Type 0} (xs : List A) (x : A) → Among xs 0 x → ⊥
among_none xs x h = omega (arith, h.1)

pub among_last : {A : Type 0} (xs : List A) (i : ℕ) (x : A) → slice_get xs i ≡ Some x → Among xs (i + 1) x
among_last xs i x at = (i, (omega arith), at)

pub among_more : {A : Type 0} (xs : List A) (i : ℕ) (x : A) → Among xs i x → Among xs (i + 1) x
among_more xs i x h = (h.0, (let lt = h.1 in omega (arith, lt)), h.2)

pub among_cases : {A : Type 0} (xs : List A) (i : ℕ) (x y : A) → slice_get xs i ≡ Some y → Among xs (i + 1) x → Among xs i x ⊎ (x ≡ y)
among_cases xs i x y at h = elim (low_or_last h.0 i h.1) [
  | inl lt ↦ inl (h.0, lt, h.2)
  | inr last ↦ inr (let both : Some x ≡ Some y = sym h.2 ∙ ap (slice_get xs) last ∙ at in cc both)
]

pub among_all : {A : Type 0} (xs : List A) (i : ℕ) (x : A) → length xs ≤ i → Contains xs x → Among xs i x
among_all xs i x full h = let at = contains_at xs x h in (at.0, (let lt = slice_get_within xs at.0 x at.1 in omega (arith, lt, full)), at.1)

pub among_contains : {A : Type 0} (xs : List A) (i : ℕ) (x : A) → Among xs i x → Contains xs x
among_contains xs i x h = at_contains xs h.0 x h.2

pub there_is : {A : Type 0} (xs : List A) (i : ℕ) → i < length xs → (x : A) × (slice_get xs i ≡ Some x)
there_is [] i lt = absurd (omega (arith, lt))
there_is (x ∷ xs) i lt = (get_or (x ∷ xs) i x, slice_get-get_or (x ∷ xs) i x lt)

pub if_ok : {A E : Type 0} (r : Result A E) (P Q : A → Type 0) → ((x : A) → P x → Q x) → IfOk r P → IfOk r Q
if_ok (Ok x) P Q f h = f x h
if_ok (Err e) P Q f h = h

pub if_some : {A : Type 0} (o : Option A) (P Q : A → Type 0) → ((x : A) → P x → Q x) → IfSome o P → IfSome o Q
if_some (Some x) P Q f h = f x h
if_some None P Q f h = h

pub some_told : {A : Type 0} (o : Option A) (P : A → Type 0) (x : A) → IfSome o P → o ≡ Some x → P x
some_told {A = A} o P x h is = subst (λ (q : Option A). IfSome q P) is h

-- one more at the end, above all before it
pub push_ascends : (xs : List ℕ) (x : ℕ) → ((y : ℕ) → Contains xs y → y < x) → IsStrictlyIncreasing xs → IsStrictlyIncreasing (xs ++ x ∷ [])
push_ascends xs x above ascends k lt = by (low_or_high (k + 1) (length xs))
  where
    long : length (xs ++ x ∷ []) ≡ length xs + 1
    long = length_push xs x

    by : (k + 1 < length xs) ⊎ (length xs ≤ k + 1) → get_or (xs ++ x ∷ []) k 0 < get_or (xs ++ x ∷ []) (k + 1) 0
    by (inl low) =
        let here : k < length xs = omega (arith, low) in
        rw (get_or_append_left xs (x ∷ []) 0 k here, get_or_append_left xs (x ∷ []) 0 (k + 1) low) (ascends k low)
    by (inr high) =
        let here : k < length xs = omega (arith, lt, long) in
        let last : k + 1 ≡ length xs = omega (arith, lt, long, high) in
        let item : get_or (xs ++ x ∷ []) (k + 1) 0 ≡ x = ap (λ i. get_or (xs ++ x ∷ []) i 0) last ∙ get_or_from_slice_get (xs ++ x ∷ []) (length xs) x 0 (at_last xs x) in
        rw (get_or_append_left xs (x ∷ []) 0 k here, item) (above (get_or xs k 0) (Contains-get_or xs k 0 here))

pub empty_list : {A : Type 0} (xs : List A) → length xs ≡ 0 → xs ≡ []
empty_list [] e = refl
empty_list (x ∷ xs) e = absurd (omega (arith, e))

-- a relation that holds of nothing but none
pub none_only : (P : Option ℕ → Type 0) → ((n : ℕ) → P (Some n) → ⊥) → (o : Option ℕ) → P o → o ≡ None
none_only P never None h = refl
none_only P never (Some n) h = absurd (never n h)
