-- Places in lists, and answers of calls.
use Rattle.std.proofs.Common.{◌≡◌, ℕ, ◌+◌, ◌<◌, ◌≤◌, Bool, true, false, not, List, Option, Some, None, Result, Ok, Err, ◌⊎◌, inl, inr, sym, ap, ◌∙◌, subst, length, arith}
use Rattle.std.specs.Prelude.{slice_get, is_some, OnOk}
use Rattle.std.specs.List.{Contains}
use Rattle.std.proofs.lemmas.Bool.{not_from_true}
use Rattle.std.proofs.lemmas.Option.{slice_get_within, slice_get-get_or, get_or_from_slice_get}

pub contains_at : {A : Type 0} (xs : List A) (x : A) → Contains xs x → (j : ℕ) × (slice_get xs j ≡ Some x)
contains_at xs x h = (h.0, slice_get-get_or xs h.0 x h.1 ∙ ap (λ y. Some y) h.2)

pub at_contains : {A : Type 0} (xs : List A) (x : A) (j : ℕ) → slice_get xs j ≡ Some x → Contains xs x
at_contains xs x j at = (j, slice_get_within xs j x at, get_or_from_slice_get xs j x x at)

pub low_or_last : (j i : ℕ) → j < i + 1 → (j < i) ⊎ (j ≡ i)
low_or_last j i h = grind (arith, h)

-- what is said of the items before a place, and of the item there
pub items_more : {A : Type 0} (P : A → Type 0) (xs : List A) (i : ℕ) (x : A) → ((j : ℕ) (y : A) → j < i → slice_get xs j ≡ Some y → P y) → slice_get xs i ≡ Some x → P x
    → (j : ℕ) (y : A) → j < i + 1 → slice_get xs j ≡ Some y → P y
items_more P xs i x before at here j y lt is = elim (low_or_last j i lt) [
  | inl low ↦ before j y low is
  | inr last ↦
      let one : Some x ≡ Some y = sym at ∙ ap (slice_get xs) (sym last) ∙ is in
      let same : x ≡ y = cc one in
      subst P same here
]

pub items_all : {A : Type 0} (P : A → Type 0) (xs : List A) (i : ℕ) → ((j : ℕ) (y : A) → j < i → slice_get xs j ≡ Some y → P y) → length xs ≤ i → (y : A) → Contains xs y → P y
items_all P xs i before done y has =
    let at = contains_at xs y has in
    let lt = slice_get_within xs at.0 y at.1 in
    before at.0 y (omega (arith, lt, done)) at.1

-- numbers below the next one
pub numbers_more : (P : ℕ → Type 0) (i : ℕ) → ((m : ℕ) → m < i → P m) → P i → (m : ℕ) → m < i + 1 → P m
numbers_more P i before here m lt = elim (low_or_last m i lt) [ inl low ↦ before m low | inr last ↦ subst P (sym last) here ]

-- two clauses on one call
pub ok_both : {T E P Q R : Type 0} (r : Result T E) → (P → Q → R) → OnOk r P → OnOk r Q → OnOk r R
ok_both (Ok x) f a b = f a b
ok_both (Err e) f a b = tt

-- what a look-up told

pub none_there : (found value : Option ℕ) (b : Bool) → found ≡ value → b ≡ is_some found → b ≡ false → value ≡ None
none_there None value b is told not = sym is
none_there (Some v) value b is told not = absurd (cc (told, not))

pub some_there : (found value : Option ℕ) (b : Bool) → found ≡ value → b ≡ is_some found → b ≡ true → (v : ℕ) × (value ≡ Some v)
some_there None value b is told so = absurd (cc (told, so))
some_there (Some v) value b is told so = (v, sym is)

pub absent : (found value : Option ℕ) (b : Bool) → found ≡ value → is_some found ≡ not b → b ≡ true → value ≡ None
absent None value b is told so = sym is
absent (Some v) value b is told so = let never = not_from_true b so in absurd (cc (told, never))

pub present : (found value : Option ℕ) (b : Bool) → found ≡ value → is_some found ≡ not b → b ≡ false → (v : ℕ) × (value ≡ Some v)
present None value true is told so = absurd (cc so)
present None value false is told so = let never : false ≡ true = told in absurd (cc never)
present (Some v) value b is told so = (v, sym is)
