-- What a loop gathers from the first elements of a list.
use Rattle.std.proofs.Common.{◌≡◌, ℕ, ◌+◌, ◌<◌, ◌≤◌, zero, suc, List, [], ◌∷◌, ◌++◌, Option, Some, None, Result, Ok, Err, ◌⊎◌, inl, inr, ◌↔◌, refl, sym, ap, ◌∙◌, subst, length, arith, nat_cmp}
use Rattle.std.specs.Prelude.{slice_get, slice_index_or as get_or, unwrap_or, IsTrue, IfOk, OnOk, MatchResult}
use Rattle.std.specs.List.{Contains}
use Rattle.std.specs.List.Sorted.{IsStrictlyIncreasing, IsBinarySearchResult}
use Rattle.std.specs.Result.{is_ok}
use Rattle.std.proofs.lemmas.List.{length_push}
use Rattle.std.proofs.lemmas.List.Elements.{Contains-append_left, Contains-push, Contains-push_cases}
use Rattle.std.proofs.lemmas.List.Kept.{AllPairs-from_increasing}
use Rattle.std.proofs.lemmas.List.Sorted.{searched}
use Rattle.std.proofs.lemmas.Option.{slice_get_within, slice_get-get_or, get_or_from_slice_get, slice_get_cases}
use Rattle.method_ties.specs.Sides.{AreAll, IsOnce}

pub at_contains : {A : Type 0} (xs : List A) (i : ℕ) (x : A) → slice_get xs i ≡ Some x → Contains xs x
at_contains xs i x at = (i, slice_get_within xs i x at, get_or_from_slice_get xs i x x at)

pub contains_at : {A : Type 0} (xs : List A) (x : A) → Contains xs x → (i : ℕ) × (slice_get xs i ≡ Some x)
contains_at xs x h = (h.0, slice_get-get_or xs h.0 x h.1 ∙ ap Some h.2)

pub none_in : {A : Type 0} (xs : List A) (x : A) → xs ≡ [] → Contains xs x → ⊥
none_in xs x empty h = let k : Contains [] x = subst (λ l. Contains l x) empty h in absurd (omega (arith, k.1))

low_or_last : (j i : ℕ) → j < i + 1 → (j < i) ⊎ (j ≡ i)
low_or_last j i h = grind (arith, h)

-- one of the first i
abbrev pub Among : {A : Type 0} → List A → ℕ → A → Type 0
Among xs i x = (k : ℕ) × (k < i) × (slice_get xs k ≡ Some x)

among_cases : {A : Type 0} (xs : List A) (i : ℕ) (x y : A) → slice_get xs i ≡ Some y → Among xs (i + 1) x → Among xs i x ⊎ (x ≡ y)
among_cases xs i x y at h = elim (low_or_last h.0 i h.1) [
  | inl lt ↦ inl (h.0, lt, h.2)
  | inr last ↦ inr (let both : Some x ≡ Some y = sym h.2 ∙ ap (slice_get xs) last ∙ at in cc both)
]

among_more : {A : Type 0} (xs : List A) (i : ℕ) (x : A) → Among xs i x → Among xs (i + 1) x
among_more xs i x h = (h.0, (let lt = h.1 in omega (arith, lt)), h.2)

pub among_all : {A : Type 0} (xs : List A) (i : ℕ) (x : A) → length xs ≤ i → Contains xs x → Among xs i x
among_all xs i x full h = let at = contains_at xs x h in (at.0, (let lt = slice_get_within xs at.0 x at.1 in omega (arith, lt, full)), at.1)

-- P holds of none of the first i
pub none_first : {A : Type 0} (P : A → Type 0) (xs : List A) (x : A) → Among xs 0 x → P x → ⊥
none_first P xs x h holds = let lt = h.1 in absurd (omega (arith, lt))

pub none_next : {A : Type 0} (P : A → Type 0) (xs : List A) (i : ℕ) (y : A) → ((x : A) → Among xs i x → P x → ⊥) → slice_get xs i ≡ Some y → (P y → ⊥) → (x : A) → Among xs (i + 1) x → P x → ⊥
none_next P xs i y none at not x h holds = elim (among_cases xs i x y at h) [
  | inl old ↦ none x old holds
  | inr same ↦ not (subst P same holds)
]

-- beside the old elements, what P gives for the first i
abbrev pub Gathers : {A B : Type 0} → (A → B → Type 0) → List B → List A → List B → ℕ → Type 0
Gathers {A = A} {B = B} P old xs out i = (y : B) → Contains out y ↔ (Contains old y ⊎ ((x : A) × Among xs i x × P x y))

pub gathers_none : {A B : Type 0} (P : A → B → Type 0) (old : List B) (xs : List A) (out : List B) → out ≡ old → Gathers P old xs out 0
gathers_none P old xs out e y = (
  λ h. inl (subst (λ l. Contains l y) e h),
  λ h. elim h [ inl was ↦ subst (λ l. Contains l y) (sym e) was | inr k ↦ let lt = k.1.1 in absurd (omega (arith, lt)) ],
)

pub gathers_next : {A B : Type 0} (P : A → B → Type 0) (old : List B) (xs : List A) (out new : List B) (i : ℕ) (x : A) → Gathers P old xs out i → slice_get xs i ≡ Some x
    → ((y : B) → Contains new y ↔ (Contains out y ⊎ P x y)) → Gathers P old xs new (i + 1)
gathers_next P old xs out new i x before at more y = (
  λ h. elim ((more y).0 h) [
    | inl was ↦ elim ((before y).0 was) [ inl first ↦ inl first | inr k ↦ inr (k.0, among_more xs i k.0 k.1, k.2) ]
    | inr here ↦ inr (x, (i, (omega arith), at), here)
  ],
  λ h. elim h [
    | inl first ↦ (more y).1 (inl ((before y).1 (inl first)))
    | inr k ↦ elim (among_cases xs i k.0 x at k.1) [
      | inl low ↦ (more y).1 (inl ((before y).1 (inr (k.0, low, k.2))))
      | inr same ↦ (more y).1 (inr (subst (λ x. P x y) same k.2))
    ]
  ],
)

pub gathers_skip : {A B : Type 0} (P : A → B → Type 0) (old : List B) (xs : List A) (out : List B) (i : ℕ) (x : A) → Gathers P old xs out i → slice_get xs i ≡ Some x → ((y : B) → P x y → ⊥) → Gathers P old xs out (i + 1)
gathers_skip P old xs out i x before at none = gathers_next P old xs out out i x before at (λ y. (λ h. inl h, λ h. elim h [ inl was ↦ was | inr k ↦ absurd (none y k) ]))

pub gathers_push : {A B : Type 0} (P : A → B → Type 0) (old : List B) (xs : List A) (out new : List B) (i : ℕ) (x : A) (z : B) → Gathers P old xs out i → slice_get xs i ≡ Some x → new ≡ out ++ z ∷ []
    → P x z → ((y : B) → P x y → y ≡ z) → Gathers P old xs new (i + 1)
gathers_push P old xs out new i x z before at made holds only = gathers_next P old xs out new i x before at (λ y. (
  λ h. elim (Contains-push_cases out z y (subst (λ l. Contains l y) made h)) [ inl was ↦ inl was | inr same ↦ inr (subst (P x) same holds) ],
  λ h. subst (λ l. Contains l y) (sym made) (elim h [ inl was ↦ Contains-append_left out (z ∷ []) y was | inr k ↦ subst (Contains (out ++ z ∷ [])) (sym (only y k)) (Contains-push out z) ]),
))

pub gathers_all : {A B : Type 0} (P : A → B → Type 0) (old : List B) (xs : List A) (out : List B) (i : ℕ) → length xs ≤ i → Gathers P old xs out i → (y : B) → Contains out y ↔ (Contains old y ⊎ ((x : A) × Contains xs x × P x y))
gathers_all P old xs out i full all y = (
  λ h. elim ((all y).0 h) [ inl was ↦ inl was | inr k ↦ inr (k.0, at_contains xs k.1.0 k.0 k.1.2, k.2) ],
  λ h. (all y).1 (elim h [ inl was ↦ inl was | inr k ↦ inr (k.0, among_all xs i k.0 full k.1, k.2) ]),
)

pub gathers_alone : {A B : Type 0} (P : A → B → Type 0) (xs : List A) (out : List B) (i : ℕ) → length xs ≤ i → Gathers P [] xs out i → (y : B) → Contains out y ↔ ((x : A) × Contains xs x × P x y)
gathers_alone P xs out i full all y = (
  λ h. elim ((gathers_all P [] xs out i full all y).0 h) [ inl was ↦ absurd (none_in [] y refl was) | inr k ↦ k ],
  λ h. (gathers_all P [] xs out i full all y).1 (inr h),
)

-- those of which P holds
pub gathers_kept : (P : ℕ → Type 0) (xs out : List ℕ) (i : ℕ) → length xs ≤ i → Gathers (λ x y. (y ≡ x) × P x) [] xs out i → (y : ℕ) → Contains out y ↔ (Contains xs y × P y)
gathers_kept P xs out i full all y = (
  λ h. let k = (gathers_alone (λ x y. (y ≡ x) × P x) xs out i full all y).0 h in (subst (Contains xs) (sym k.2.0) k.1, subst P (sym k.2.0) k.2.1),
  λ h. (gathers_alone (λ x y. (y ≡ x) × P x) xs out i full all y).1 (y, h.0, (refl, h.1)),
)

-- ascending numbers

pub increasing_new : (xs : List ℕ) (i x : ℕ) → IsStrictlyIncreasing xs → slice_get xs i ≡ Some x → Among xs i x → ⊥
increasing_new xs i x rises at h =
    let lt = h.1 in
    let within = slice_get_within xs i x at in
    let low = AllPairs-from_increasing xs rises h.0 i 0 lt within in
    let first : get_or xs h.0 0 ≡ x = get_or_from_slice_get xs h.0 x 0 h.2 in
    let second : get_or xs i 0 ≡ x = get_or_from_slice_get xs i x 0 at in
    omega (arith, low, first, second)

less_or_same : (i j : ℕ) → i ≤ j → (i < j) ⊎ (i ≡ j)
less_or_same i j h = grind (arith, h)

below_or_not : (k i : ℕ) → (k < i) ⊎ (i ≤ k)
below_or_not k i = grind arith

pub among_told : (xs : List ℕ) (x : ℕ) (r : Result ℕ ℕ) → IsStrictlyIncreasing xs → IsBinarySearchResult (λ y. nat_cmp y x) xs r → IsTrue (is_ok r) ↔ Contains xs x
among_told xs x r rises says = go r (searched xs x r says ordered)
  where
    ordered : (i j : ℕ) → i ≤ j → j < length xs → get_or xs i 0 ≤ get_or xs j 0
    ordered i j le lt = elim (less_or_same i j le) [
      | inl less ↦ let low = AllPairs-from_increasing xs rises i j 0 less lt in omega (arith, low)
      | inr same ↦ let e : get_or xs i 0 ≡ get_or xs j 0 = ap (λ n. get_or xs n 0) same in omega (arith, e)
    ]

    go : (r : Result ℕ ℕ) → MatchResult r (λ i. (i < length xs) × (get_or xs i 0 ≡ x)) (λ i. (i ≤ length xs) × ((k : ℕ) → k < i → get_or xs k 0 < x) × ((k : ℕ) → i ≤ k → k < length xs → x < get_or xs k 0))
        → IsTrue (is_ok r) ↔ Contains xs x
    go (Ok i) h = (λ e. at_contains xs i x (slice_get-get_or xs i 0 h.0 ∙ ap Some h.1), λ k. refl)
    go (Err i) h = (λ e. absurd (cc e), λ k. absurd (away i h k))
      where
        away : (i : ℕ) → (i ≤ length xs) × ((k : ℕ) → k < i → get_or xs k 0 < x) × ((k : ℕ) → i ≤ k → k < length xs → x < get_or xs k 0) → Contains xs x → ⊥
        away i h k =
            let at = contains_at xs x k in
            let is : get_or xs at.0 0 ≡ x = get_or_from_slice_get xs at.0 x 0 at.1 in
            elim (below_or_not at.0 i) [
              | inl low ↦ let less = h.1 at.0 low in omega (arith, less, is)
              | inr high ↦ let more = h.2 at.0 high (slice_get_within xs at.0 x at.1) in omega (arith, more, is)
            ]

-- what a longer list has at a place
first_or_last : {A : Type 0} (xs : List A) (x y : A) (k : ℕ) → slice_get (xs ++ x ∷ []) k ≡ Some y → (slice_get xs k ≡ Some y) ⊎ ((k ≡ length xs) × (y ≡ x))
first_or_last [] x y zero e = let h : x ≡ y = cc e in inr (refl, sym h)
first_or_last [] x y (suc k) e = absurd (cc e)
first_or_last (z ∷ zs) x y zero e = inl e
first_or_last (z ∷ zs) x y (suc k) e = elim (first_or_last zs x y k e) [ inl low ↦ inl low | inr last ↦ inr (ap suc last.0, last.1) ]

-- each element once

pub once_none : {A : Type 0} (xs : List A) → xs ≡ [] → IsOnce xs
once_none xs empty i j x at = let k = none_in xs x empty (at_contains xs i x at) in absurd k

pub once_push : {A : Type 0} (xs new : List A) (x : A) → IsOnce xs → (Contains xs x → ⊥) → new ≡ xs ++ x ∷ [] → IsOnce new
once_push xs new x once fresh made i j y at there =
    let a = first_or_last xs x y i (ap (λ l. slice_get l i) (sym made) ∙ at) in
    let b = first_or_last xs x y j (ap (λ l. slice_get l j) (sym made) ∙ there) in
    elim a [
      | inl low ↦ elim b [
        | inl low' ↦ once i j y low low'
        | inr last ↦ absurd (fresh (subst (Contains xs) last.1 (at_contains xs i y low)))
      ]
      | inr last ↦ elim b [
        | inl low ↦ absurd (fresh (subst (Contains xs) last.1 (at_contains xs j y low)))
        | inr last' ↦ last.0 ∙ sym last'.0
      ]
    ]

pub once_new : {A : Type 0} (xs : List A) (i : ℕ) (x : A) → IsOnce xs → slice_get xs i ≡ Some x → Among xs i x → ⊥
once_new xs i x once at h = let same : h.0 ≡ i = once h.0 i x h.2 at in let lt = h.1 in absurd (omega (arith, lt, same))

pub once_rising : (xs : List ℕ) → IsStrictlyIncreasing xs → IsOnce xs
once_rising xs rises i j x at there = elim (three i j) [
  | inl low ↦ absurd (increasing_new xs j x rises there (i, low, at))
  | inr other ↦ elim other [ inl same ↦ same | inr high ↦ absurd (increasing_new xs i x rises at (j, high, there)) ]
]
  where
    three : (i j : ℕ) → (i < j) ⊎ ((i ≡ j) ⊎ (j < i))
    three i j = grind arith

-- one of the first i and one
pub among_next : {A : Type 0} (xs : List A) (i : ℕ) (x y : A) → slice_get xs i ≡ Some y → Among xs (i + 1) x ↔ (Among xs i x ⊎ (x ≡ y))
among_next xs i x y at = (
  λ h. among_cases xs i x y at h,
  λ h. elim h [ inl low ↦ among_more xs i x low | inr same ↦ subst (Among xs (i + 1)) (sym same) (i, (omega arith), at) ],
)

pub among_full : {A : Type 0} (xs : List A) (i : ℕ) (x : A) → length xs ≤ i → Among xs i x ↔ Contains xs x
among_full xs i x full = (λ h. at_contains xs h.0 x h.2, λ h. among_all xs i x full h)

-- the element at a place, or what stands for none
pub all_get : {A : Type 0} (P : ℕ → A → Type 0) (xs : List A) (n : ℕ) (d : A) → AreAll P xs n → ((i : ℕ) → n ≤ i → P i d) → (i : ℕ) → P i (unwrap_or (slice_get xs i) d)
all_get P xs n d all past i = go (slice_get xs i) refl
  where
    go : (o : Option _) → slice_get xs i ≡ o → P i (unwrap_or (slice_get xs i) d)
    go (Some x) e = subst (λ o. P i (unwrap_or o d)) (sym e) (all.1 i x e)
    go None e = subst (λ o. P i (unwrap_or o d)) (sym e) (past i (elim (slice_get_cases xs i).1 [ inl h ↦ absurd (cc (h.2, e)) | inr h ↦ let len = all.0 in let le = h.0 in omega (arith, len, le) ]))

pub all_none : {A : Type 0} (P : ℕ → A → Type 0) (xs : List A) → xs ≡ [] → AreAll P xs 0
all_none P xs empty = (ap length empty, λ i x at. let k = none_in xs x empty (at_contains xs i x at) in absurd k)

pub all_push : {A : Type 0} (P : ℕ → A → Type 0) (xs new : List A) (n : ℕ) (x : A) → AreAll P xs n → P n x → new ≡ xs ++ x ∷ [] → AreAll P new (n + 1)
all_push P xs new n x all holds made = (
  ap length made ∙ length_push xs x ∙ ap (λ k. k + 1) all.0,
  λ i y at. elim (first_or_last xs x y i (ap (λ l. slice_get l i) (sym made) ∙ at)) [
    | inl low ↦ all.1 i y low
    | inr last ↦ subst (P i) (sym last.1) (subst (λ k. P k x) (sym (last.0 ∙ all.0)) holds)
  ],
)

-- more that follows where there is an answer
pub on_ok : {A B : Type 0} {P Q : Type 0} (r : Result A B) → (P → Q) → OnOk r P → OnOk r Q
on_ok (Ok x) f p = f p
on_ok (Err e) f p = tt

pub if_ok : {A E : Type 0} (r : Result A E) (P Q : A → Type 0) → ((x : A) → P x → Q x) → IfOk r P → IfOk r Q
if_ok (Ok x) P Q f h = f x h
if_ok (Err e) P Q f h = h
