-- Results in the order of their types.
use Rattle.std.proofs.Common.{◌≡◌, ℕ, ◌+◌, ◌-◌, ◌<◌, ◌≤◌, zero, suc, true, false, List, [], ◌∷◌, Option, None, Some, ◌⊎◌, inl, inr, ◌↔◌, refl, sym, ap, ◌∙◌, subst, length, arith}
use Rattle.std.specs.Prelude.{◌/◌, slice_get, slice_index_or as get_or}
use Rattle.std.specs.List.{Contains, insert}
use Rattle.std.proofs.lemmas.Option.{slice_get_within, slice_get-get_or}
use Rattle.class_world.specs.declared.world.World.{World}
use Rattle.class_world.specs.Subtypes as order
use Rattle.method_ties.proofs.Firsts.{at_contains, contains_at}
use Rattle.class_world.specs.declared.world.JavaType.{JavaType}
use Rattle.inherited_rules.specs.Rules.{FitsResult}
use Rattle.inherited_rules.specs.Parts.{IsUnlike}
use Rattle.inherited_rules.specs.Chains.{HasApart, IsBelow, IsBetween, IsChain, IsCut, IsPut}

-- what a loop over a list, or an index of it, reads
pub item_is : {A : Type 0} (xs : List A) (i : ℕ) (x : A) → i < length xs → x ≡ get_or xs i x → slice_get xs i ≡ Some x
item_is xs i x lt is = slice_get-get_or xs i x lt ∙ ap Some (sym is)

-- ---- the order

pub below_through : (w : World) (r q s : Option JavaType) → IsBelow w r q → IsBelow w q s → IsBelow w r s
below_through w None None s a b = b
below_through w None (Some q) s a b = absurd a
below_through w (Some r) None s a b = absurd a
below_through w (Some r) (Some q) None a b = absurd b
below_through w (Some r) (Some q) (Some s) a b = elim a [
  | inl same ↦ subst (λ x. IsBelow w (Some x) (Some s)) (sym same) b
  | inr up ↦ elim b [
    | inl same ↦ subst (λ x. IsBelow w (Some r) (Some x)) same (inr up)
    | inr on ↦ inr (up.0, on.1, order.through up.2 on.2)
  ]
]

below_itself : (w : World) (r : Option JavaType) → IsBelow w r r
below_itself w None = tt
below_itself w (Some t) = inl refl

pub below_fits : (w : World) (r q : Option JavaType) → IsBelow w r q → FitsResult w r q
below_fits w None None h = tt
below_fits w None (Some q) h = absurd h
below_fits w (Some r) None h = absurd h
below_fits w (Some r) (Some q) h = elim h [ inl same ↦ inl same | inr up ↦ inr (up.0, up.1, inl up.2) ]

pub fits_itself : (w : World) (r : Option JavaType) → FitsResult w r r
fits_itself w None = tt
fits_itself w (Some t) = inl refl

-- ---- a chain

at_or_behind : (m k : ℕ) → m ≤ k → (k ≡ m) ⊎ (m < k)
at_or_behind m k h = grind (arith, h)

pub low_or_high : (k i : ℕ) → (k < i) ⊎ (i ≤ k)
low_or_high k i = grind arith

module _ (w : World) (xs : List (Option JavaType)) (chain : IsChain w xs) where
  -- each is below itself and those after it
  pub chain_up : (j k : ℕ) (r q : Option JavaType) → j ≤ k → slice_get xs j ≡ Some r → slice_get xs k ≡ Some q → IsBelow w r q
  chain_up j k r q le at_j at_k = elim (at_or_behind j k le) [
    | inl same ↦
        let both : Some r ≡ Some q = sym at_j ∙ ap (slice_get xs) (sym same) ∙ at_k in
        let is : r ≡ q = cc both in
        subst (IsBelow w r) is (below_itself w r)
    | inr behind ↦ chain j k r q behind at_j at_k
  ]

  -- no two are unlike
  pub chain_like : (r q : Option JavaType) → Contains xs r → Contains xs q → IsUnlike w r q → ⊥
  chain_like r q has_r has_q unlike =
      let a = contains_at xs r has_r in
      let b = contains_at xs q has_q in
      elim (low_or_high a.0 b.0) [
        | inl low ↦ unlike.0 (below_fits w r q (chain a.0 b.0 r q low a.1 b.1))
        | inr high ↦ unlike.1 (below_fits w q r (chain_up b.0 a.0 q r high b.1 a.1))
      ]

  -- what holds of the middle one, and so of those before it or after it
  module _ (r q : Option JavaType) (middle : ℕ) (at : slice_get xs middle ≡ Some q) where
    pub below_after : IsBelow w r q → (k : ℕ) (x : Option JavaType) → middle ≤ k → slice_get xs k ≡ Some x → IsBelow w r x
    below_after below k x le at_k = below_through w r q x below (chain_up middle k q x le at at_k)

    pub above_before : IsBelow w q r → (k : ℕ) (x : Option JavaType) → k ≤ middle → slice_get xs k ≡ Some x → IsBelow w x r
    above_before above k x le at_k = below_through w x q r (chain_up k middle x q le at_k at) above

    pub not_below_before : (IsBelow w r q → ⊥) → (k : ℕ) (x : Option JavaType) → k ≤ middle → slice_get xs k ≡ Some x → IsBelow w r x → ⊥
    not_below_before none k x le at_k below = none (below_through w r x q below (chain_up k middle x q le at_k at))

    pub not_above_after : (IsBelow w q r → ⊥) → (k : ℕ) (x : Option JavaType) → middle ≤ k → slice_get xs k ≡ Some x → IsBelow w x r → ⊥
    not_above_after none k x le at_k above = none (below_through w q x r (chain_up middle k q x le at at_k) above)

-- ---- a result put between others

inserted : {A : Type 0} (xs : List A) (i : ℕ) (x : A) (k : ℕ) (y : A) → i ≤ length xs → slice_get (insert xs i x) k ≡ Some y
    → ((k < i) × (slice_get xs k ≡ Some y)) ⊎ (((k ≡ i) × (y ≡ x)) ⊎ ((j : ℕ) × (k ≡ j + 1) × (i ≤ j) × (slice_get xs j ≡ Some y)))
inserted xs zero x zero y le at = inr (inl (refl, (let both : Some x ≡ Some y = at in cc both)))
inserted xs zero x (suc k) y le at = inr (inr (k, omega arith, omega arith, at))
inserted [] (suc i) x k y le at = absurd (omega (arith, le))
inserted (z ∷ zs) (suc i) x zero y le at = inl (omega arith, at)
inserted (z ∷ zs) (suc i) x (suc k) y le at = elim (inserted zs i x k y (omega (arith, le)) at) [
  | inl low ↦ inl (let lt = low.0 in omega (arith, lt), low.1)
  | inr (inl here) ↦ inr (inl (ap suc here.0, here.1))
  | inr (inr high) ↦ inr (inr (suc high.0, (let is = high.1 in omega (arith, is)), (let up = high.2 in omega (arith, up)), high.3))
]

chain_put : (w : World) (xs : List (Option JavaType)) (r : Option JavaType) (i : ℕ) → IsChain w xs → IsBetween w xs r i → IsChain w (insert xs i r)
chain_put w xs r i chain between j l a b less at_a at_b = elim (inserted xs i r j a between.within at_a) [
  | inl low ↦ elim (inserted xs i r l b between.within at_b) [
    | inl low' ↦ chain j l a b less low.1 low'.1
    | inr (inl here) ↦ subst (IsBelow w a) (sym here.1) (between.before j a low.0 low.1)
    | inr (inr high) ↦ chain j high.0 a b (let lt = low.0 in let up = high.2 in omega (arith, lt, up)) low.1 high.3
  ]
  | inr (inl here) ↦ elim (inserted xs i r l b between.within at_b) [
    | inl low' ↦ let is = here.0 in let lt = low'.0 in absurd (omega (arith, less, is, lt))
    | inr (inl here') ↦ let is = here.0 in let is' = here'.0 in absurd (omega (arith, less, is, is'))
    | inr (inr high) ↦ subst (λ x. IsBelow w x b) (sym here.1) (between.after high.0 b high.2 high.3)
  ]
  | inr (inr high) ↦ elim (inserted xs i r l b between.within at_b) [
    | inl low' ↦ let is = high.1 in let up = high.2 in let lt = low'.0 in absurd (omega (arith, less, is, up, lt))
    | inr (inl here') ↦ let is = high.1 in let up = high.2 in let is' = here'.0 in absurd (omega (arith, less, is, up, is'))
    | inr (inr high') ↦ let is = high.1 in let is' = high'.1 in chain high.0 high'.0 a b (omega (arith, less, is, is')) high.3 high'.3
  ]
]

put_here : {A : Type 0} (xs : List A) (i : ℕ) (x : A) → i ≤ length xs → (k : ℕ) × (slice_get (insert xs i x) k ≡ Some x)
put_here xs zero x le = (0, refl)
put_here [] (suc i) x le = absurd (omega (arith, le))
put_here (z ∷ zs) (suc i) x le = let rest = put_here zs i x (omega (arith, le)) in (suc rest.0, rest.1)

put_stays : {A : Type 0} (xs : List A) (i : ℕ) (x : A) (k : ℕ) (y : A) → i ≤ length xs → slice_get xs k ≡ Some y → (j : ℕ) × (slice_get (insert xs i x) j ≡ Some y)
put_stays xs zero x k y le at = (suc k, at)
put_stays [] (suc i) x k y le at = absurd (omega (arith, le))
put_stays (z ∷ zs) (suc i) x zero y le at = (0, at)
put_stays (z ∷ zs) (suc i) x (suc k) y le at = let rest = put_stays zs i x k y (omega (arith, le)) at in (suc rest.0, rest.1)

contains_put : {A : Type 0} (xs : List A) (i : ℕ) (x y : A) → i ≤ length xs → Contains (insert xs i x) y ↔ (Contains xs y ⊎ (y ≡ x))
contains_put xs i x y le = (
  λ h. let at = contains_at (insert xs i x) y h in elim (inserted xs i x at.0 y le at.1) [
    | inl low ↦ inl (at_contains xs at.0 y low.1)
    | inr (inl here) ↦ inr here.1
    | inr (inr high) ↦ inl (at_contains xs high.0 y high.3)
  ],
  λ h. elim h [
    | inl was ↦ let at = contains_at xs y was in let new = put_stays xs i x at.0 y le at.1 in at_contains (insert xs i x) new.0 y new.1
    | inr same ↦ let new = put_here xs i x le in subst (Contains (insert xs i x)) (sym same) (at_contains (insert xs i x) new.0 x new.1)
  ],
)

-- the one is there, it is put at its place, or it has none

pub put_there : (w : World) (xs : List (Option JavaType)) (r : Option JavaType) → IsChain w xs → Contains xs r → IsPut w xs xs r false
put_there w xs r chain has = (λ h. absurd (cc h), λ none. (chain, λ q. (λ h. inl h, λ h. elim h [ inl was ↦ was | inr same ↦ subst (Contains xs) (sym same) has ])))

pub put_at : (w : World) (old new : List (Option JavaType)) (r : Option JavaType) (i : ℕ) → IsChain w old → IsBetween w old r i → new ≡ insert old i r → IsPut w old new r false
put_at w old new r i chain between made = (
  λ h. absurd (cc h),
  λ none. (subst (IsChain w) (sym made) (chain_put w old r i chain between), λ q. subst (λ l. Contains l q ↔ (Contains old q ⊎ (q ≡ r))) (sym made) (contains_put old i r q between.within)),
)

pub put_nowhere : (w : World) (xs : List (Option JavaType)) (r : Option JavaType) → HasApart w xs r → IsPut w xs xs r true
put_nowhere w xs r found = (λ h. found, λ none. absurd (none refl))

-- ---- halving

pub middle_within : (low high : ℕ) → low < high → low + (high - low) / 2 < high
middle_within low high lt = omega (arith, lt)

module _ (First Second : Option JavaType → Type 0) (xs : List (Option JavaType)) where
  pub cut_all : (n : ℕ) → n ≡ length xs → IsCut First Second xs 0 n
  cut_all n is = record {
    ascending = omega arith;
    within = omega (arith, is);
    before = λ k q lt. absurd (omega (arith, lt));
    after = λ k q up at. let lt = slice_get_within xs k q at in absurd (omega (arith, up, lt, is));
  }

  pub lower_half : (low middle high : ℕ) → IsCut First Second xs low high → low ≤ middle → middle < high → ((k : ℕ) (q : Option JavaType) → middle ≤ k → slice_get xs k ≡ Some q → Second q) → IsCut First Second xs low middle
  lower_half low middle high cut le lt second = record {
    ascending = le;
    within = let within = cut.within in omega (arith, within, lt);
    before = cut.before;
    after = second;
  }

  pub upper_half : (low middle high : ℕ) → IsCut First Second xs low high → low ≤ middle → middle < high → ((k : ℕ) (q : Option JavaType) → k ≤ middle → slice_get xs k ≡ Some q → First q) → IsCut First Second xs (middle + 1) high
  upper_half low middle high cut le lt first = record {
    ascending = omega (arith, lt);
    within = cut.within;
    before = λ k q down at. first k q (omega (arith, down)) at;
    after = cut.after;
  }

  -- nothing is left between
  pub cut_none : (low high : ℕ) → high ≤ low → IsCut First Second xs low high → IsCut First Second xs low low
  cut_none low high le cut = record {
    ascending = omega arith;
    within = let up = cut.ascending in let within = cut.within in omega (arith, up, within);
    before = cut.before;
    after = λ k q up at. cut.after k q (omega (arith, up, le)) at;
  }
