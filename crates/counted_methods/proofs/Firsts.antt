-- What lists of numbers have, and in which order.
use Rattle.std.proofs.Common.{◌≡◌, ℕ, ◌+◌, ◌<◌, ◌≤◌, zero, suc, List, [], ◌∷◌, ◌++◌, Some, Result, Ok, Err, ◌⊎◌, inl, inr, ◌↔◌, refl, sym, ap, ◌∙◌, subst, length, arith, nat_cmp}
use Rattle.std.specs.Prelude.{slice_get, slice_index_or as get_or, IsTrue, MatchResult, IfOk, OnOk}
use Rattle.std.specs.List.{Contains}
use Rattle.std.specs.List.Sorted.{IsStrictlyIncreasing, IsBinarySearchResult}
use Rattle.std.specs.Result.{is_ok}
use Rattle.std.proofs.lemmas.Bool.{cases_lt, cases_eq}
use Rattle.std.proofs.lemmas.List.{length_push}
use Rattle.std.proofs.lemmas.List.Kept.{AllPairs-from_increasing}
use Rattle.std.proofs.lemmas.List.Sorted.{searched}
use Rattle.std.proofs.lemmas.Option.{slice_get_within, slice_get-get_or, get_or_from_slice_get}
use Rattle.class_world.proofs.Ends.{at_first, at_last}
use Rattle.class_world.proofs.Substs.{there_is}
use Rattle.member_methods.proofs.Firsts.{at_contains, contains_at}

pub if_ok : {A E : Type 0} (r : Result A E) (P Q : A → Type 0) → ((x : A) → P x → Q x) → IfOk r P → IfOk r Q
if_ok (Ok x) P Q f h = f x h
if_ok (Err e) P Q f h = h

pub on_ok : {A E : Type 0} (r : Result A E) (P Q : Type 0) → (P → Q) → OnOk r P → OnOk r Q
on_ok (Ok x) P Q f h = f h
on_ok (Err e) P Q f h = h

not_in_longer : (y : ℕ) (ys : List ℕ) (x : ℕ) → (y ≡ x → ⊥) → (Contains ys x → ⊥) → (k : ℕ) → slice_get (y ∷ ys) k ≡ Some x → ⊥
not_in_longer y ys x other none zero e = other (cc e)
not_in_longer y ys x other none (suc k) e = none (at_contains ys k x e)

pub contains_or_not : (xs : List ℕ) (x : ℕ) → Contains xs x ⊎ (Contains xs x → ⊥)
contains_or_not [] x = inr (λ h. let lt = h.1 in absurd (omega (arith, lt)))
contains_or_not (y ∷ ys) x = elim (cases_eq y x) [
  | inl same ↦ inl (at_contains (y ∷ ys) zero x (ap Some same))
  | inr other ↦ elim (contains_or_not ys x) [
    | inl there ↦ let at = contains_at ys x there in inl (at_contains (y ∷ ys) (suc at.0) x at.1)
    | inr none ↦ inr (λ h. let at = contains_at (y ∷ ys) x h in not_in_longer y ys x other none at.0 at.1)
  ]
]

-- of ascending numbers a later one is greater
pub later_greater : (xs : List ℕ) (i j x y : ℕ) → IsStrictlyIncreasing xs → slice_get xs i ≡ Some x → slice_get xs j ≡ Some y → i < j → x < y
later_greater xs i j x y rises at_x at_y lt =
    let within = slice_get_within xs j y at_y in
    let low : get_or xs i 0 < get_or xs j 0 = AllPairs-from_increasing xs rises i j 0 lt within in
    let first : get_or xs i 0 ≡ x = get_or_from_slice_get xs i x 0 at_x in
    let second : get_or xs j 0 ≡ y = get_or_from_slice_get xs j y 0 at_y in
    omega (arith, low, first, second)

-- each stands at one place
pub one_place : (xs : List ℕ) (i j x : ℕ) → IsStrictlyIncreasing xs → slice_get xs i ≡ Some x → slice_get xs j ≡ Some x → i ≡ j
one_place xs i j x rises a b = elim (cases_lt i j) [
  | inl lt ↦ let low = later_greater xs i j x x rises a b lt in absurd (omega (arith, low))
  | inr ge ↦ elim (cases_lt j i) [
    | inl lt ↦ let low = later_greater xs j i x x rises b a lt in absurd (omega (arith, low))
    | inr le ↦ omega (arith, ge, le)
  ]
]

pub first_lowest : (xs : List ℕ) (x m : ℕ) → IsStrictlyIncreasing xs → slice_get xs 0 ≡ Some x → Contains xs m → x ≤ m
first_lowest xs x m rises at h =
    let there = contains_at xs m h in
    elim (cases_lt 0 there.0) [
      | inl lt ↦ let low = later_greater xs 0 there.0 x m rises at there.1 lt in omega (arith, low)
      | inr le ↦
          let none : there.0 ≡ 0 = omega (arith, le) in
          let both : Some x ≡ Some m = sym at ∙ ap (slice_get xs) (sym none) ∙ there.1 in
          let same : x ≡ m = cc both in
          omega (arith, same)
    ]

-- a greater number behind ascending ones
pub rises_push : (xs new : List ℕ) (m : ℕ) → new ≡ xs ++ m ∷ [] → IsStrictlyIncreasing xs → ((x : ℕ) → Contains xs x → x < m) → IsStrictlyIncreasing new
rises_push xs new m made rises low = subst IsStrictlyIncreasing (sym made) (λ k lt.
    let len : length (xs ++ m ∷ []) ≡ length xs + 1 = length_push xs m in
    let x = there_is xs k (omega (arith, lt, len)) in
    let first : get_or (xs ++ m ∷ []) k 0 ≡ x.0 = get_or_from_slice_get (xs ++ m ∷ []) k x.0 0 (at_first xs m x.0 k x.1) in
    let less : get_or (xs ++ m ∷ []) k 0 < get_or (xs ++ m ∷ []) (k + 1) 0 = elim (cases_lt (k + 1) (length xs)) [
      | inl inside ↦
          let y = there_is xs (k + 1) inside in
          let second : get_or (xs ++ m ∷ []) (k + 1) 0 ≡ y.0 = get_or_from_slice_get (xs ++ m ∷ []) (k + 1) y.0 0 (at_first xs m y.0 (k + 1) y.1) in
          let below : x.0 < y.0 = later_greater xs k (k + 1) x.0 y.0 rises x.1 y.1 (omega arith) in
          omega (arith, first, second, below)
      | inr outside ↦
          let last : k + 1 ≡ length xs = omega (arith, outside, lt, len) in
          let second : get_or (xs ++ m ∷ []) (k + 1) 0 ≡ m = get_or_from_slice_get (xs ++ m ∷ []) (k + 1) m 0 (ap (slice_get (xs ++ m ∷ [])) last ∙ at_last xs m) in
          let below : x.0 < m = low x.0 (at_contains xs k x.0 x.1) in
          omega (arith, first, second, below)
    ] in
    less)

pub rises_none : (xs : List ℕ) → xs ≡ [] → IsStrictlyIncreasing xs
rises_none xs none k lt = let len : length xs ≡ 0 = ap length none in absurd (omega (arith, len, lt))

less_or_same : (i j : ℕ) → i ≤ j → (i < j) ⊎ (i ≡ j)
less_or_same i j h = grind (arith, h)

pub among_told : (xs : List ℕ) (x : ℕ) (r : Result ℕ ℕ) → IsStrictlyIncreasing xs → IsBinarySearchResult (λ y. nat_cmp y x) xs r → IsTrue (is_ok r) ↔ Contains xs x
among_told xs x r rises says = go r (searched xs x r says ordered)
  where
    ordered : (i j : ℕ) → i ≤ j → j < length xs → get_or xs i 0 ≤ get_or xs j 0
    ordered i j le lt = elim (less_or_same i j le) [
      | inl less ↦ let low = AllPairs-from_increasing xs rises i j 0 less lt in omega (arith, low)
      | inr same ↦ let e : get_or xs i 0 ≡ get_or xs j 0 = ap (λ n. get_or xs n 0) same in omega (arith, e)
    ]

    go : (r : Result ℕ ℕ) → MatchResult r (λ i. (i < length xs) × (get_or xs i 0 ≡ x)) (λ i. (i ≤ length xs) × ((k : ℕ) → k < i → get_or xs k 0 < x) × ((k : ℕ) → i ≤ k → k < length xs → x < get_or xs k 0))
        → IsTrue (is_ok r) ↔ Contains xs x
    go (Ok i) h = (λ e. at_contains xs i x (slice_get-get_or xs i 0 h.0 ∙ ap Some h.1), λ k. refl)
    go (Err i) h = (λ e. absurd (cc e), λ k. absurd (away i h k))
      where
        away : (i : ℕ) → (i ≤ length xs) × ((k : ℕ) → k < i → get_or xs k 0 < x) × ((k : ℕ) → i ≤ k → k < length xs → x < get_or xs k 0) → Contains xs x → ⊥
        away i h k =
            let at = contains_at xs x k in
            let is : get_or xs at.0 0 ≡ x = get_or_from_slice_get xs at.0 x 0 at.1 in
            elim (cases_lt at.0 i) [
              | inl low ↦ let less = h.1 at.0 low in omega (arith, less, is)
              | inr high ↦ let more = h.2 at.0 high (slice_get_within xs at.0 x at.1) in omega (arith, more, is)
            ]
