-- The values of trees: by halves, in a list that has grown, and with one key changed.
use Rattle.std.proofs.Common.{◌≡◌, ℕ, zero, suc, ◌+◌, ◌-◌, ◌^◌, ◌<◌, ◌≤◌, List, Option, None, ◌⊎◌, inl, inr, refl, sym, ap, ◌∙◌, length, arith}
use Rattle.std.specs.Prelude.{slice_get, ◌==◌, nat_lt, if◌then◌else◌}
use Rattle.std.proofs.Math.Nat.{two-pow-succ}
use Rattle.std.proofs.lemmas.Bool.{cases_lt, cases_eq, lt-ltb, le-ltb, eq-eqb, ne_eqb, cond-true, cond-false}
use Rattle.shared_maps.specs.declared.trees.Node.{Node}
use Rattle.shared_maps.specs.Trees.{Grows, HasHalves, IsArena, high_of, low_of, value_at, value_of}
use Rattle.shared_maps.proofs.Nodes.{IsBare, bare_first, grows_both, halves_inside}

-- twice as many keys with one more level
pub twice : (less levels : ℕ) → levels ≡ suc less → 2 ^ levels ≡ 2 ^ less + 2 ^ less
twice less levels e = ap (λ n. 2 ^ n) e ∙ two-pow-succ less

pub value_below : (nodes : List Node) (levels less root key : ℕ) → levels ≡ suc less → key < 2 ^ less
    → value_at nodes levels root key ≡ value_at nodes less (low_of (slice_get nodes root)) key
value_below nodes levels less root key e lt =
    ap (λ n. value_at nodes n root key) e
    ∙ cond-true (nat_lt key (2 ^ less)) (value_at nodes less (low_of (slice_get nodes root)) key) (value_at nodes less (high_of (slice_get nodes root)) (key - 2 ^ less)) (lt-ltb key (2 ^ less) lt)

pub value_above : (nodes : List Node) (levels less root key : ℕ) → levels ≡ suc less → 2 ^ less ≤ key
    → value_at nodes levels root key ≡ value_at nodes less (high_of (slice_get nodes root)) (key - 2 ^ less)
value_above nodes levels less root key e le =
    ap (λ n. value_at nodes n root key) e
    ∙ cond-false (nat_lt key (2 ^ less)) (value_at nodes less (low_of (slice_get nodes root)) key) (value_at nodes less (high_of (slice_get nodes root)) (key - 2 ^ less)) (le-ltb key (2 ^ less) le)

-- by halves that are known
pub value_low : (nodes : List Node) (levels less root low high key : ℕ) → levels ≡ suc less → HasHalves nodes root low high → key < 2 ^ less
    → value_at nodes levels root key ≡ value_at nodes less low key
value_low nodes levels less root low high key e has lt = value_below nodes levels less root key e lt ∙ ap (λ n. value_at nodes less n key) (sym has.low)

pub value_high : (nodes : List Node) (levels less root low high key : ℕ) → levels ≡ suc less → HasHalves nodes root low high → 2 ^ less ≤ key
    → value_at nodes levels root key ≡ value_at nodes less high (key - 2 ^ less)
value_high nodes levels less root low high key e has le = value_above nodes levels less root key e le ∙ ap (λ n. value_at nodes less n (key - 2 ^ less)) (sym has.high)

pub value_kept : (old new : List Node) → IsArena old → Grows old new → (levels root key : ℕ) → root < length old → value_at new levels root key ≡ value_at old levels root key
value_kept old new arena grows zero root key lt = ap value_of (grows.kept root lt)
value_kept old new arena grows (suc levels) root key lt =
    let same = grows.kept root lt in
    let inside = halves_inside old arena root in
    let low = value_kept old new arena grows levels (low_of (slice_get old root)) key inside.0 in
    let high = value_kept old new arena grows levels (high_of (slice_get old root)) (key - 2 ^ levels) inside.1 in
    cc (same, low, high)

pub value_bare : (nodes : List Node) → IsArena nodes → (levels root key : ℕ) → IsBare nodes root → value_at nodes levels root key ≡ None
value_bare nodes arena zero root key h = h.value
value_bare nodes arena (suc levels) root key h =
    let first = bare_first nodes arena in
    elim (cases_lt key (2 ^ levels)) [
      | inl lt ↦ value_below nodes (suc levels) levels root key refl lt ∙ ap (λ n. value_at nodes levels n key) h.low ∙ value_bare nodes arena levels 0 key first
      | inr le ↦ value_above nodes (suc levels) levels root key refl le ∙ ap (λ n. value_at nodes levels n (key - 2 ^ levels)) h.high ∙ value_bare nodes arena levels 0 (key - 2 ^ levels) first
    ]

-- the tree under one node has the values of the tree under another, but for one key
pub record IsWith (old : List Node) (root : ℕ) (new : List Node) (levels number key : ℕ) (value : Option ℕ) : Type 0 where
  pub each : (k : ℕ) → k < 2 ^ levels → value_at new levels number k ≡ (if k == key then value else value_at old levels root k)

module _ (old mid new : List Node) (levels less root number key half : ℕ) (value : Option ℕ) (e : levels ≡ suc less)
    (arena : IsArena old) (arena' : IsArena mid) (grows : Grows old mid) (grows' : Grows mid new) where
  -- the half that stays
  kept_half : (root k : ℕ) → root < length old → value_at new less root k ≡ value_at old less root k
  kept_half root k lt = value_kept old new arena (grows_both old mid new grows grows') less root k lt

  pub with_low : key < 2 ^ less → half < length mid → IsWith old (low_of (slice_get old root)) mid less half key value
      → low_of (slice_get new number) ≡ half → high_of (slice_get new number) ≡ high_of (slice_get old root) → IsWith old root new levels number key value
  with_low small lt h low high = record { each = λ k within. by k within (cases_lt k (2 ^ less)) }
    where
      by : (k : ℕ) → k < 2 ^ levels → (k < 2 ^ less) ⊎ (2 ^ less ≤ k) → value_at new levels number k ≡ (if k == key then value else value_at old levels root k)
      by k within (inl under) =
          value_below new levels less number k e under ∙ ap (λ n. value_at new less n k) low ∙ value_kept mid new arena' grows' less half k lt ∙ h.each k under
          ∙ ap (λ o. if k == key then value else o) (sym (value_below old levels less root k e under))
      by k within (inr over) =
          value_above new levels less number k e over ∙ ap (λ n. value_at new less n (k - 2 ^ less)) high ∙ kept_half (high_of (slice_get old root)) (k - 2 ^ less) (halves_inside old arena root).1
          ∙ sym (value_above old levels less root k e over)
          ∙ sym (cond-false (k == key) value (value_at old levels root k) (ne_eqb k key (λ same. absurd (omega (arith, same, small, over)))))

  pub with_high : 2 ^ less ≤ key → half < length mid → IsWith old (high_of (slice_get old root)) mid less half (key - 2 ^ less) value
      → low_of (slice_get new number) ≡ low_of (slice_get old root) → high_of (slice_get new number) ≡ half → IsWith old root new levels number key value
  with_high large lt h low high = record { each = λ k within. by k within (cases_lt k (2 ^ less)) }
    where
      same_test : (k : ℕ) → 2 ^ less ≤ k → ((k - 2 ^ less) == (key - 2 ^ less)) ≡ (k == key)
      same_test k over = elim (cases_eq k key) [
        | inl same ↦ eq-eqb (k - 2 ^ less) (key - 2 ^ less) (ap (λ n. n - 2 ^ less) same) ∙ sym (eq-eqb k key same)
        | inr other ↦
            ne_eqb (k - 2 ^ less) (key - 2 ^ less) (λ s. other (let t : k ≡ key = omega (arith, s, over, large) in t)) ∙ sym (ne_eqb k key other)
      ]

      by : (k : ℕ) → k < 2 ^ levels → (k < 2 ^ less) ⊎ (2 ^ less ≤ k) → value_at new levels number k ≡ (if k == key then value else value_at old levels root k)
      by k within (inl under) =
          value_below new levels less number k e under ∙ ap (λ n. value_at new less n k) low ∙ kept_half (low_of (slice_get old root)) k (halves_inside old arena root).0
          ∙ sym (value_below old levels less root k e under)
          ∙ sym (cond-false (k == key) value (value_at old levels root k) (ne_eqb k key (λ same. absurd (omega (arith, same, large, under)))))
      by k within (inr over) =
          value_above new levels less number k e over ∙ ap (λ n. value_at new less n (k - 2 ^ less)) high
          ∙ value_kept mid new arena' grows' less half (k - 2 ^ less) lt ∙ h.each (k - 2 ^ less) (omega (arith, within, twice less levels e, over))
          ∙ ap (λ b. if b then value else value_at old less (high_of (slice_get old root)) (k - 2 ^ less)) (same_test k over)
          ∙ ap (λ o. if k == key then value else o) (sym (value_above old levels less root k e over))

-- a tree of no levels has one key
pub with_value_alone : (old new : List Node) (root number key : ℕ) (value : Option ℕ) → key < 2 ^ 0 → value_of (slice_get new number) ≡ value → IsWith old root new 0 number key value
with_value_alone old new root number key value small is = record {
  each = λ k within. is ∙ sym (cond-true (k == key) value (value_of (slice_get old root)) (eq-eqb k key (let t : k ≡ key = omega (arith, small, within) in t)));
}
