-- Items of lists by place.
use Rattle.std.proofs.Common.{◌≡◌, ℕ, ◌+◌, ◌<◌, ◌≤◌, zero, suc, List, [], ◌∷◌, ◌++◌, Some, ◌⊎◌, inl, inr, ◌↔◌, refl, sym, ap, ◌∙◌, subst, length, arith}
use Rattle.std.specs.Prelude.{slice_get, slice_index_or as get_or}
use Rattle.std.specs.List.{Contains}
use Rattle.std.proofs.lemmas.Option.{slice_get_read, slice_get_within, get_or_from_slice_get}
use Rattle.std.proofs.lemmas.List.Elements.{Contains-append_left, Contains-append_right, Contains-append_cases}
use Rattle.rule_order.proofs.Lists.{in_none, in_first, in_cases}
use Rattle.override_rules.proofs.Numbers.{low_or_last}

pub contained_at : {A : Type 0} (xs : List A) (x : A) → Contains xs x → (k : ℕ) × (slice_get xs k ≡ Some x)
contained_at xs x h = (h.0, slice_get_read xs (length xs) h.0 x refl h.1 (sym h.2))

pub contains_at : {A : Type 0} (xs : List A) (k : ℕ) (x : A) → slice_get xs k ≡ Some x → Contains xs x
contains_at xs k x at = (k, slice_get_within xs k x at, get_or_from_slice_get xs k x x at)

-- ---- the items before a place

abbrev pub IsBefore : {A : Type 0} → List A → ℕ → A → Type 0
IsBefore xs n x = (k : ℕ) × (k < n) × (slice_get xs k ≡ Some x)

pub more_before : {A : Type 0} (xs : List A) (n : ℕ) (x y : A) → slice_get xs n ≡ Some y → IsBefore xs (n + 1) x → IsBefore xs n x ⊎ (x ≡ y)
more_before xs n x y at h = elim (low_or_last h.0 n h.1) [
  | inl lt ↦ inl (h.0, lt, h.2)
  | inr last ↦ let e = sym h.2 ∙ ap (slice_get xs) last ∙ at in let same : x ≡ y = cc e in inr same
]

pub still_before : {A : Type 0} (xs : List A) (n : ℕ) (x : A) → IsBefore xs n x → IsBefore xs (n + 1) x
still_before xs n x h = (h.0, omega (arith, h.1), h.2)

pub here_before : {A : Type 0} (xs : List A) (n : ℕ) (y : A) → slice_get xs n ≡ Some y → IsBefore xs (n + 1) y
here_before xs n y at = (n, omega arith, at)

pub all_before : {A : Type 0} (xs : List A) (n : ℕ) (x : A) → length xs ≤ n → Contains xs x → IsBefore xs n x
all_before xs n x le h = let at = contained_at xs x h in (at.0, omega (arith, slice_get_within xs at.0 x at.1, le), at.1)

pub before_contained : {A : Type 0} (xs : List A) (n : ℕ) (x : A) → IsBefore xs n x → Contains xs x
before_contained xs n x h = contains_at xs h.0 x h.2

-- one more at the end
pub more_items : (xs : List ℕ) (n : ℕ) → ((m : ℕ) → Contains xs m ↔ (m < n)) → (m : ℕ) → Contains (xs ++ n ∷ []) m ↔ (m < n + 1)
more_items xs n all m = (
  λ h. elim (Contains-append_cases xs (n ∷ []) m h) [
    | inl left ↦ let lt = (all m).0 left in omega (arith, lt)
    | inr last ↦ elim (in_cases n m [] last) [ inl e ↦ omega (arith, e) | inr none ↦ absurd (in_none m none) ]
  ],
  λ lt. elim (low_or_last m n lt) [
    | inl low ↦ Contains-append_left xs (n ∷ []) m ((all m).1 low)
    | inr last ↦ subst (Contains (xs ++ n ∷ [])) (sym last) (Contains-append_right xs (n ∷ []) n (in_first n []))
  ],
)

-- what is said of the first and of each other
pub in_front : {A : Type 0} (P : A → Type 0) (ds : List A) (d : A) (rest : List A) → ds ≡ d ∷ rest → P d → ((k : ℕ) (e : A) → slice_get rest k ≡ Some e → P e)
    → (k : ℕ) (e : A) → slice_get ds k ≡ Some e → P e
in_front {A} P ds d rest is first others k e at = go k (sym (ap (λ xs. slice_get xs k) is) ∙ at)
  where
    go : (k : ℕ) → slice_get (d ∷ rest) k ≡ Some e → P e
    go zero at = let same : d ≡ e = cc at in subst P same first
    go (suc k) at = others k e at

-- the item at a place

pub item_or : {A : Type 0} (xs : List A) (i : ℕ) (d : A) → i < length xs → slice_get xs i ≡ Some (get_or xs i d)
item_or [] i d lt = absurd (omega (arith, lt))
item_or (x ∷ xs) zero d lt = refl
item_or (x ∷ xs) (suc i) d lt = item_or xs i d (omega (arith, lt))

pub item_at : (xs : List ℕ) (i : ℕ) → i < length xs → slice_get xs i ≡ Some (get_or xs i 0)
item_at xs i lt = item_or xs i 0 lt

pub item_contained : (xs : List ℕ) (i : ℕ) → i < length xs → Contains xs (get_or xs i 0)
item_contained xs i lt = contains_at xs i (get_or xs i 0) (item_at xs i lt)

pub before_step : {A : Type 0} (xs : List A) (n : ℕ) (y : A) → slice_get xs n ≡ Some y → (x : A) → IsBefore xs (n + 1) x ↔ (IsBefore xs n x ⊎ (x ≡ y))
before_step xs n y at x = (
  more_before xs n x y at,
  λ h. elim h [ inl was ↦ still_before xs n x was | inr e ↦ subst (IsBefore xs (n + 1)) (sym e) (here_before xs n y at) ],
)
