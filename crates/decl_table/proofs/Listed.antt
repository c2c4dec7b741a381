-- Elements of lists that are put together.
use Rattle.std.proofs.Common.{◌≡◌, ℕ, zero, suc, ◌+◌, Bool, true, false, List, [], ◌∷◌, ◌++◌, map, length, Option, Some, None, ◌⊎◌, inl, inr, refl, sym, ap, ◌∙◌, subst, arith}
use Rattle.std.specs.Prelude.{slice_get, flat_map, filter, if◌then◌else◌, Contains}
use Rattle.std.specs.Option.{option_map}

pub none_there : {A : Type 0} (k : ℕ) (y : A) → slice_get [] k ≡ Some y → ⊥
none_there k y e = cc e

-- an element of two lists: of the first, or of the second behind it
pub get_either : {A : Type 0} (xs ys : List A) (c : ℕ) (y : A) → slice_get (xs ++ ys) c ≡ Some y → (slice_get xs c ≡ Some y) ⊎ ((k : ℕ) × (c ≡ length xs + k) × (slice_get ys k ≡ Some y))
get_either [] ys c y e = inr (c, omega arith, e)
get_either (x ∷ xs) ys zero y e = inl e
get_either (x ∷ xs) ys (suc c) y e = elim (get_either xs ys c y e) [ inl h ↦ inl h | inr h ↦ inr (h.0, omega (arith, h.1), h.2) ]

pub get_front : {A : Type 0} (xs ys : List A) (c : ℕ) (y : A) → slice_get xs c ≡ Some y → slice_get (xs ++ ys) c ≡ Some y
get_front [] ys c y e = absurd (cc e)
get_front (x ∷ xs) ys zero y e = e
get_front (x ∷ xs) ys (suc c) y e = get_front xs ys c y e

pub get_behind : {A : Type 0} (xs ys : List A) (k : ℕ) (y : A) → slice_get ys k ≡ Some y → slice_get (xs ++ ys) (length xs + k) ≡ Some y
get_behind [] ys k y e = subst (λ n. slice_get ys n ≡ Some y) (let e : k ≡ 0 + k = omega arith in e) e
get_behind (x ∷ xs) ys k y e = subst (λ n. slice_get (x ∷ xs ++ ys) n ≡ Some y) (let e : suc (length xs + k) ≡ length (x ∷ xs) + k = omega arith in e) (get_behind xs ys k y e)

pub get_mapped : {A B : Type 0} (f : A → B) (xs : List A) (k : ℕ) (y : B) → slice_get (map f xs) k ≡ Some y → (x : A) × (slice_get xs k ≡ Some x) × (f x ≡ y)
get_mapped f [] k y e = absurd (cc e)
get_mapped f (x ∷ xs) zero y e = (x, refl, cc e)
get_mapped f (x ∷ xs) (suc k) y e = get_mapped f xs k y e

pub get_flat : {A B : Type 0} (f : A → List B) (xs : List A) (k : ℕ) (y : B) → slice_get (flat_map f xs) k ≡ Some y → (x : A) × (i : ℕ) × (slice_get (f x) i ≡ Some y)
get_flat f [] k y e = absurd (cc e)
get_flat f (x ∷ xs) k y e = elim (get_either (f x) (flat_map f xs) k y e) [ inl h ↦ (x, k, h) | inr h ↦ get_flat f xs h.0 y h.2 ]

-- what an option holds that a function was put on
pub map_some : {A B : Type 0} (f : A → B) (o : Option A) (y : B) → option_map f o ≡ Some y → (x : A) × (o ≡ Some x) × (f x ≡ y)
map_some f None y e = absurd (cc e)
map_some f (Some x) y e = (x, refl, cc e)

-- an element that passed a filter
pub get_filtered : {A : Type 0} (q : A → Bool) (xs : List A) (k : ℕ) (y : A) → slice_get (filter q xs) k ≡ Some y → (i : ℕ) × (slice_get xs i ≡ Some y) × (q y ≡ true)
get_filtered q [] k y e = absurd (cc e)
get_filtered {A} q (x ∷ xs) k y e = split (q x) refl k e (λ j h. get_filtered q xs j y h)
  where
    later : (i : ℕ) × (slice_get xs i ≡ Some y) × (q y ≡ true) → (i : ℕ) × (slice_get (x ∷ xs) i ≡ Some y) × (q y ≡ true)
    later h = (suc h.0, h.1, h.2)

    split : (b : Bool) → q x ≡ b → (k : ℕ) → slice_get (if b then x ∷ filter q xs else filter q xs) k ≡ Some y
        → ((j : ℕ) → slice_get (filter q xs) j ≡ Some y → (i : ℕ) × (slice_get xs i ≡ Some y) × (q y ≡ true)) → (i : ℕ) × (slice_get (x ∷ xs) i ≡ Some y) × (q y ≡ true)
    split true is zero e rest = let same : x ≡ y = cc e in (0, ap Some same, ap q (sym same) ∙ is)
    split true is (suc k) e rest = later (rest k e)
    split false is k e rest = later (rest k e)

pub contains_at : {A : Type 0} (xs : List A) (k : ℕ) (x : A) → slice_get xs k ≡ Some x → Contains xs x
contains_at [] k x e = absurd (cc e)
contains_at (y ∷ xs) zero x e = let same : y ≡ x = cc e in subst (Contains (y ∷ xs)) same (0, omega arith, refl)
contains_at (y ∷ xs) (suc k) x e = let rest = contains_at xs k x e in (suc rest.0, omega (arith, rest.1), rest.2)
