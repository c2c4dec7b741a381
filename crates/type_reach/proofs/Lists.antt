-- Places in lists.
use Rattle.std.proofs.Common.{◌≡◌, ℕ, ◌+◌, ◌-◌, ◌<◌, ◌≤◌, zero, suc, Bool, true, false, cond, List, [], ◌∷◌, ◌++◌, Some, ◌⊎◌, inl, inr, refl, sym, ap, ◌∙◌, length, take, drop, arith}
use Rattle.std.specs.Prelude.{slice_get, slice_set, Contains}
use Rattle.std.proofs.lemmas.Option.{slice_get_within, slice_get-get_or, get_or_from_slice_get}
use Rattle.type_reach.specs.Spread.{left}

pub at_front : {A : Type 0} (xs ys : List A) (i : ℕ) (a : A) → slice_get xs i ≡ Some a → slice_get (xs ++ ys) i ≡ Some a
at_front [] ys i a e = absurd (cc e)
at_front (x ∷ xs) ys zero a e = e
at_front (x ∷ xs) ys (suc i) a e = at_front xs ys i a e

pub at_end : {A : Type 0} (xs ys : List A) (j : ℕ) → slice_get (xs ++ ys) (length xs + j) ≡ slice_get ys j
at_end [] ys j = ap (slice_get ys) (let e : 0 + j ≡ j = omega arith in e)
at_end (x ∷ xs) ys j = ap (slice_get (x ∷ (xs ++ ys))) (let e : suc (length xs) + j ≡ suc (length xs + j) = omega arith in e) ∙ at_end xs ys j

pub at_cases : {A : Type 0} (xs ys : List A) (i : ℕ) (a : A) → slice_get (xs ++ ys) i ≡ Some a → (slice_get xs i ≡ Some a) ⊎ ((j : ℕ) × (i ≡ length xs + j) × (slice_get ys j ≡ Some a))
at_cases [] ys i a e = inr (i, omega arith, e)
at_cases (x ∷ xs) ys zero a e = inl e
at_cases (x ∷ xs) ys (suc i) a e = elim (at_cases xs ys i a e) [ inl h ↦ inl h | inr h ↦ inr (h.0, omega (arith, h.1), h.2) ]

-- one more at the end
pub at_last : {A : Type 0} (xs : List A) (x : A) → slice_get (xs ++ x ∷ []) (length xs) ≡ Some x
at_last [] x = refl
at_last (y ∷ ys) x = at_last ys x

pub last_cases : {A : Type 0} (xs : List A) (x a : A) (i : ℕ) → slice_get (xs ++ x ∷ []) i ≡ Some a → (slice_get xs i ≡ Some a) ⊎ ((a ≡ x) × (i ≡ length xs))
last_cases [] x a zero e = let h : x ≡ a = cc e in inr (sym h, refl)
last_cases [] x a (suc i) e = absurd (cc e)
last_cases (y ∷ ys) x a zero e = inl e
last_cases (y ∷ ys) x a (suc i) e = elim (last_cases ys x a i e) [ inl h ↦ inl h | inr h ↦ inr (h.0, ap suc h.1) ]

pub same_or_other : (i j : ℕ) → (i ≡ j) ⊎ (i ≡ j → ⊥)
same_or_other i j = grind arith

pub set_here : {A : Type 0} (xs : List A) (i : ℕ) (x : A) → i < length xs → slice_get (slice_set xs i x) i ≡ Some x
set_here [] i x h = absurd (omega (arith, h))
set_here (y ∷ ys) zero x h = refl
set_here (y ∷ ys) (suc i) x h = set_here ys i x (omega (arith, h))

pub set_there : {A : Type 0} (xs : List A) (i j : ℕ) (x : A) → (i ≡ j → ⊥) → slice_get (slice_set xs i x) j ≡ slice_get xs j
set_there [] i j x h = refl
set_there (y ∷ ys) zero zero x h = absurd (h refl)
set_there (y ∷ ys) zero (suc j) x h = refl
set_there (y ∷ ys) (suc i) zero x h = refl
set_there (y ∷ ys) (suc i) (suc j) x h = set_there ys i j x (λ e. h (ap suc e))

pub taken : {A : Type 0} (n i : ℕ) (xs : List A) (a : A) → slice_get (take n xs) i ≡ Some a → (i < n) × (slice_get xs i ≡ Some a)
taken zero i xs a e = absurd (cc e)
taken (suc n) i [] a e = absurd (cc e)
taken (suc n) zero (x ∷ xs) a e = (omega arith, e)
taken (suc n) (suc i) (x ∷ xs) a e = let h = taken n i xs a e in (omega (arith, h.0), h.1)

pub taken_back : {A : Type 0} (n i : ℕ) (xs : List A) (a : A) → i < n → slice_get xs i ≡ Some a → slice_get (take n xs) i ≡ Some a
taken_back zero i xs a h e = absurd (omega (arith, h))
taken_back (suc n) i [] a h e = absurd (cc e)
taken_back (suc n) zero (x ∷ xs) a h e = e
taken_back (suc n) (suc i) (x ∷ xs) a h e = taken_back n i xs a (omega (arith, h)) e

pub dropped : {A : Type 0} (n k : ℕ) (xs : List A) (a : A) → slice_get (drop n xs) k ≡ Some a → slice_get xs (n + k) ≡ Some a
dropped zero k xs a e = ap (slice_get xs) (let s : 0 + k ≡ k = omega arith in s) ∙ e
dropped (suc n) k [] a e = absurd (cc e)
dropped (suc n) k (x ∷ xs) a e = ap (slice_get (x ∷ xs)) (let s : suc n + k ≡ suc (n + k) = omega arith in s) ∙ dropped n k xs a e

pub dropped_back : {A : Type 0} (n i : ℕ) (xs : List A) (a : A) → n ≤ i → slice_get xs i ≡ Some a → slice_get (drop n xs) (i - n) ≡ Some a
dropped_back zero i xs a h e = ap (slice_get xs) (let s : i - 0 ≡ i = omega arith in s) ∙ e
dropped_back (suc n) zero xs a h e = absurd (omega (arith, h))
dropped_back (suc n) (suc i) [] a h e = absurd (cc e)
dropped_back (suc n) (suc i) (x ∷ xs) a h e = ap (slice_get (drop n xs)) (let s : suc i - suc n ≡ i - n = omega arith in s) ∙ dropped_back n i xs a (omega (arith, h)) e

pub there_is : {A : Type 0} (xs : List A) (i : ℕ) → i < length xs → (x : A) × (slice_get xs i ≡ Some x)
there_is [] i lt = absurd (omega (arith, lt))
there_is (x ∷ xs) zero lt = (x, refl)
there_is (x ∷ xs) (suc i) lt = there_is xs i (omega (arith, lt))

pub contains_at : {A : Type 0} (xs : List A) (a : A) → Contains xs a → (k : ℕ) × (slice_get xs k ≡ Some a)
contains_at xs a h = (h.0, slice_get-get_or xs h.0 a h.1 ∙ ap Some h.2)

pub at_contains : {A : Type 0} (xs : List A) (k : ℕ) (a : A) → slice_get xs k ≡ Some a → Contains xs a
at_contains xs k a e = (k, slice_get_within xs k a e, get_or_from_slice_get xs k a a e)

-- ---- what is left to do

pub left_set : {A : Type 0} (new : A → Bool) (xs : List A) (rows : List (List ℕ)) (i : ℕ) (x y : A) (row : List ℕ) → slice_get xs i ≡ Some x → new x ≡ true → new y ≡ false
    → slice_get rows i ≡ Some row → left new (slice_set xs i y) rows + (length row + 2) ≡ left new xs rows
left_set new [] rows i x y row at is not here = absurd (cc at)
left_set new (z ∷ zs) [] i x y row at is not here = absurd (cc here)
left_set new (z ∷ zs) (r ∷ rs) zero x y row at is not here =
    let z_is : z ≡ x = cc at in
    let r_is : r ≡ row = cc here in
    let was : cond (new z) (length r + 2) 0 ≡ length row + 2 = rw (z_is, is, r_is) refl in
    let now : cond (new y) (length r + 2) 0 ≡ 0 = rw not refl in
    omega (arith, was, now)
left_set new (z ∷ zs) (r ∷ rs) (suc i) x y row at is not here = let rest = left_set new zs rs i x y row at is not here in omega (arith, rest)

-- where no item is new that was not
pub left_falls : {A : Type 0} (new : A → Bool) (xs ys : List A) (rows : List (List ℕ)) → length ys ≡ length xs
    → ((i : ℕ) (y : A) → slice_get ys i ≡ Some y → new y ≡ true → (x : A) × (slice_get xs i ≡ Some x) × (new x ≡ true)) → left new ys rows ≤ left new xs rows
left_falls new xs [] rows size same = omega arith
left_falls new [] (y ∷ ys) rows size same = absurd (omega (arith, size))
left_falls new (x ∷ xs) (y ∷ ys) [] size same = omega arith
left_falls {A} new (x ∷ xs) (y ∷ ys) (r ∷ rs) size same =
    let rest = left_falls new xs ys rs (omega (arith, size)) (λ i z at is. same (suc i) z at is) in
    let first = below (new x) (new y) refl refl in
    omega (arith, rest, first)
  where
    below : (b c : Bool) → new x ≡ b → new y ≡ c → cond (new y) (length r + 2) 0 ≤ cond (new x) (length r + 2) 0
    below b false is_b is_c = rw is_c (omega arith)
    below true true is_b is_c = rw (is_b, is_c) (omega arith)
    below false true is_b is_c =
        let h = same 0 y refl is_c in
        let is_x : x ≡ h.0 = cc h.1 in
        let never : false ≡ true = sym is_b ∙ ap new is_x ∙ h.2 in
        absurd (cc never)
