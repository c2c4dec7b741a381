-- What a row lacks of another.
use Rattle.std.proofs.Common.{◌≡◌, ℕ, ◌+◌, ◌-◌, ◌<◌, ◌≤◌, true, false, Option, Some, None, inl, inr, refl, sym, ◌∙◌, subst, arith}
use Rattle.std.specs.Prelude.{is_some}
use Rattle.std.proofs.lemmas.Bool.{cases_lt}
use Rattle.shared_maps.specs.Trees.{IsFirst}
use Rattle.shared_maps.specs.Maps.{IsLacking}
use Rattle.shared_maps.proofs.Lacking.{only_right_as}
use Rattle.class_world.specs.declared.world.World.{World}
use Rattle.overrides.specs.Tables.{Rows, Has, HasRow, Lacks, value_at}
use Rattle.overrides.specs.Rounds.{Grows, HasThird}
use Rattle.overrides.proofs.Gaps.{has_within}

-- rows by the maps that they are
pub first_as : (a b c d : ℕ → Option ℕ) (from : ℕ) (found : Option ℕ) → ((k : ℕ) → a k ≡ b k) → ((k : ℕ) → c k ≡ d k) → IsFirst (IsLacking a c from) found → IsFirst (IsLacking b d from) found
first_as a b c d from found p q first = by found first
  where
    on : (k : ℕ) → IsLacking a c from k → IsLacking b d from k
    on k h = record { large = h.large; values = only_right_as (a k) (b k) (c k) (d k) (p k) (q k) h.values }

    back : (k : ℕ) → IsLacking b d from k → IsLacking a c from k
    back k h = record { large = h.large; values = only_right_as (b k) (a k) (d k) (c k) (sym (p k)) (sym (q k)) h.values }

    by : (o : Option ℕ) → IsFirst (IsLacking a c from) o → IsFirst (IsLacking b d from) o
    by None none = λ k h. none k (back k h)
    by (Some key) is = (on key is.0, λ k h. is.1 k (back k h))

module _ (table : Rows) (m t from : ℕ) where
  pub lacking_gap : (k : ℕ) → IsLacking (value_at table m) (value_at table t) from k → Has table m k → ⊥
  lacking_gap k h had = let both : None ≡ Some had.0 = sym h.values.1 ∙ had.1 in absurd (cc both)

  pub lacking_above : (k : ℕ) → IsLacking (value_at table m) (value_at table t) from k → Has table t k
  lacking_above k h = (h.values.0, h.values.2)

  -- a key that the row of m does not lack
  pub not_lacking : (k : ℕ) → from ≤ k → (IsLacking (value_at table m) (value_at table t) from k → ⊥) → Has table t k → Has table m k
  not_lacking k le never h = by (value_at table m k) refl
    where
      by : (o : Option ℕ) → value_at table m k ≡ o → Has table m k
      by None is = absurd (never (record { large = le; values = (h.0, is, h.1) }))
      by (Some v) is = (v, is)

  pub before_first : (k first : ℕ) → IsFirst (IsLacking (value_at table m) (value_at table t) from) (Some first) → from ≤ k → k < first → Has table t k → Has table m k
  before_first k first is le lt = not_lacking k le (λ h. let least = is.1 k h in absurd (omega (arith, least, lt)))

-- ---- whether a row lacks something

module _ (table : Rows) (m t : ℕ) where
  pub other_lacks : (from k : ℕ) → IsLacking (value_at table m) (value_at table t) from k → (m ≡ k → ⊥) → Lacks table m t
  other_lacks from k h other = (k, lacking_gap table m t from k h, inr (lacking_above table m t from k h, other))

  -- a key behind m
  pub later_lacks : (k : ℕ) → k ≡ m → (found : Option ℕ) → IsFirst (IsLacking (value_at table m) (value_at table t) (k + 1)) found → is_some found ≡ true → Lacks table m t
  later_lacks k e None first so = absurd (cc so)
  later_lacks k e (Some j) first so = let large = first.0.large in other_lacks (k + 1) j first.0 (λ same. absurd (omega (arith, e, large, same)))

  pub none_lacks : Has table m t → IsFirst (IsLacking (value_at table m) (value_at table t) 0) None → HasRow table m t
  none_lacks has none = record { key = has; row = λ j h other. not_lacking table m t 0 j (omega arith) (none j) h }

  -- m alone
  pub itself_lacks : (k : ℕ) → k ≡ m → Has table m t → IsFirst (IsLacking (value_at table m) (value_at table t) 0) (Some k) → (found : Option ℕ)
      → IsFirst (IsLacking (value_at table m) (value_at table t) (k + 1)) found → is_some found ≡ false → HasRow table m t
  itself_lacks k e has first (Some j) none not = absurd (cc not)
  itself_lacks k e has first None none not = record {
    key = has;
    row = λ j h other. elim (cases_lt j k) [
      | inl below ↦ before_first table m t 0 j k first (omega arith) below h
      | inr over ↦ elim (cases_lt k j) [
        | inl behind ↦ not_lacking table m t (k + 1) j (omega (arith, behind)) (none j) h
        | inr under ↦ absurd (other (let same : m ≡ j = omega (arith, e, over, under) in same))
      ]
    ];
  }

-- ---- keys taken one by one

-- what is wanted of the keys that the row of t had at first, so far
abbrev pub HasThirds : World → ℕ → ℕ → Rows → Rows → ℕ → Type 0
HasThirds w m t start now from = (k : ℕ) → k < from → Has start t k → HasThird w m now k

module _ (w : World) (m t : ℕ) (start now : Rows) (from : ℕ) (grew : Grows start now) (thirds : HasThirds w m t start now from) where
  pub thirds_more : (new : Rows) (k : ℕ) → IsFirst (IsLacking (value_at now m) (value_at now t) from) (Some k) → Grows now new → HasThird w m new k → HasThirds w m t start new (k + 1)
  thirds_more new k first grows here j lt h other agree = elim (cases_lt j k) [
    | inl under ↦ elim (cases_lt j from) [
      | inl before ↦ grows m j (thirds j before h other agree)
      | inr behind ↦ grows m j (before_first now m t from j k first behind under (grew t j h))
    ]
    | inr over ↦
        let same : k ≡ j = omega (arith, over, lt) in
        subst (HasThird w m new) same here other agree
  ]

  pub thirds_end : IsFirst (IsLacking (value_at now m) (value_at now t) from) None → (k : ℕ) → Has start t k → HasThird w m now k
  thirds_end none k h other agree = elim (cases_lt k from) [
    | inl before ↦ thirds k before h other agree
    | inr behind ↦ not_lacking now m t from k behind (none k) (grew t k h)
  ]

-- fewer keys are left
pub lacking_smaller : (old : Rows) (m t from keys k : ℕ) → IsLacking (value_at old m) (value_at old t) from k → keys ≡ old.maps.keys → keys - (k + 1) < old.maps.keys - from
lacking_smaller old m t from keys k h same =
    let within = (has_within old t k (lacking_above old m t from k h)).1 in
    let large = h.large in
    omega (arith, same, within, large)
