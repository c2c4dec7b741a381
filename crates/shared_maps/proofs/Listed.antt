-- The entries of a tree.
use Rattle.std.proofs.Common.{◌≡◌, ℕ, zero, suc, ◌+◌, ◌-◌, ◌^◌, ◌<◌, ◌≤◌, Bool, true, false, cond, List, [], ◌∷◌, ◌++◌, Option, Some, None, ◌⊎◌, inl, inr, refl, sym, ap, ◌∙◌, subst, length, get_or, arith}
use Rattle.std.specs.Prelude.{slice_get, Contains, AllPairs, nat_lt}
use Rattle.std.proofs.lemmas.Bool.{cases_lt, lt-ltb, le-ltb, ltb-true, cond-true, cond-false}
use Rattle.std.proofs.lemmas.List.{length-append, get_or_append_left, get_or-append_right}
use Rattle.std.proofs.lemmas.List.Elements.{Contains-append_left, Contains-append_right, Contains-append_cases, Contains-get_or}
use Rattle.shared_maps.specs.declared.trees.Node.{Node}
use Rattle.shared_maps.specs.Trees.{IsArena, entries_at, entry_of, high_of, low_of, value_at, value_of}
use Rattle.shared_maps.proofs.Nodes.{IsBare, bare_first}
use Rattle.shared_maps.proofs.Walks.{twice, value_above, value_below}

pub halves_listed : (nodes : List Node) (keys levels less root from : ℕ) → levels ≡ suc less
    → entries_at nodes keys levels root from ≡ entries_at nodes keys less (low_of (slice_get nodes root)) from ++ entries_at nodes keys less (high_of (slice_get nodes root)) (from + 2 ^ less)
halves_listed nodes keys levels less root from e = ap (λ n. entries_at nodes keys n root from) e

pub one_listed : (nodes : List Node) (keys levels root from : ℕ) → levels ≡ 0 → from < keys → entries_at nodes keys levels root from ≡ entry_of from (value_of (slice_get nodes root))
one_listed nodes keys levels root from e small =
    ap (λ n. entries_at nodes keys n root from) e ∙ cond-true (nat_lt from keys) (entry_of from (value_of (slice_get nodes root))) [] (lt-ltb from keys small)

pub none_listed : (nodes : List Node) → IsArena nodes → (keys levels root from : ℕ) → IsBare nodes root → entries_at nodes keys levels root from ≡ []
none_listed nodes arena keys zero root from h = ap (λ o. cond (nat_lt from keys) (entry_of from o) []) h.value ∙ same (nat_lt from keys)
  where
    same : (b : Bool) → cond b (entry_of from None) [] ≡ []
    same true = refl
    same false = refl
none_listed nodes arena keys (suc levels) root from h =
    let low = ap (λ n. entries_at nodes keys levels n from) h.low ∙ none_listed nodes arena keys levels 0 from (bare_first nodes arena) in
    let high = ap (λ n. entries_at nodes keys levels n (from + 2 ^ levels)) h.high ∙ none_listed nodes arena keys levels 0 (from + 2 ^ levels) (bare_first nodes arena) in
    ap (λ xs. xs ++ entries_at nodes keys levels (high_of (slice_get nodes root)) (from + 2 ^ levels)) low ∙ high

pub past_listed : (nodes : List Node) (keys levels root from : ℕ) → keys ≤ from → entries_at nodes keys levels root from ≡ []
past_listed nodes keys zero root from past = cond-false (nat_lt from keys) (entry_of from (value_of (slice_get nodes root))) [] (le-ltb from keys past)
past_listed nodes keys (suc levels) root from past =
    let low = past_listed nodes keys levels (low_of (slice_get nodes root)) from past in
    let high = past_listed nodes keys levels (high_of (slice_get nodes root)) (from + 2 ^ levels) (omega (arith, past)) in
    ap (λ xs. xs ++ entries_at nodes keys levels (high_of (slice_get nodes root)) (from + 2 ^ levels)) low ∙ high

-- an entry of a tree: its key is one of the tree's that is below the limit, and has its value
pub record IsEntry (nodes : List Node) (keys levels root from k v : ℕ) : Type 0 where
  pub low : from ≤ k
  pub high : k < from + 2 ^ levels
  pub small : k < keys
  pub value : value_at nodes levels root (k - from) ≡ Some v

only_entry : (from k v : ℕ) (o : Option ℕ) → Contains (entry_of from o) (k, v) → (from ≡ k) × (o ≡ Some v)
only_entry from k v None has = absurd (omega (arith, has.1))
only_entry from k v (Some value) has = first has.0 has.1 has.2
  where
    first : (i : ℕ) → i < 1 → ◌≡◌ {A = ℕ × ℕ} (get_or ((from, value) ∷ []) i (k, v)) (k, v) → (from ≡ k) × (Some value ≡ Some v)
    first zero lt is = (ap (λ p. p.0) is, ap (λ p. Some p.1) is)
    first (suc i) lt is = absurd (omega (arith, lt))

pub listed_is : (nodes : List Node) (keys levels root from k v : ℕ) → Contains (entries_at nodes keys levels root from) (k, v) → IsEntry nodes keys levels root from k v
listed_is nodes keys zero root from k v has = by (nat_lt from keys) refl has
  where
    by : (b : Bool) → nat_lt from keys ≡ b → Contains (cond b (entry_of from (value_of (slice_get nodes root))) []) (k, v) → IsEntry nodes keys 0 root from k v
    by true is has =
        let lt = ltb-true from keys is in
        let one = only_entry from k v (value_of (slice_get nodes root)) has in
        record { low = omega (arith, one.0); high = omega (arith, one.0); small = omega (arith, one.0, lt); value = one.1 }
    by false is has = absurd (omega (arith, has.1))
listed_is nodes keys (suc levels) root from k v has =
    let double = twice levels (suc levels) refl in
    elim
    (Contains-append_cases (entries_at nodes keys levels (low_of (slice_get nodes root)) from) (entries_at nodes keys levels (high_of (slice_get nodes root)) (from + 2 ^ levels)) (k, v) has) [
      | inl left ↦
          let h = listed_is nodes keys levels (low_of (slice_get nodes root)) from k v left in
          record {
            low = h.low;
            high = omega (arith, h.high, double);
            small = h.small;
            value = value_below nodes (suc levels) levels root (k - from) refl (omega (arith, h.low, h.high)) ∙ h.value;
          }
      | inr right ↦
          let h = listed_is nodes keys levels (high_of (slice_get nodes root)) (from + 2 ^ levels) k v right in
          let rest : (k - from) - 2 ^ levels ≡ k - (from + 2 ^ levels) = omega (arith, h.low) in
          record {
            low = omega (arith, h.low);
            high = omega (arith, h.high, double);
            small = h.small;
            value = value_above nodes (suc levels) levels root (k - from) refl (omega (arith, h.low))
                ∙ ap (value_at nodes levels (high_of (slice_get nodes root))) rest ∙ h.value;
          }
    ]

pub is_listed : (nodes : List Node) (keys levels root from k v : ℕ) → IsEntry nodes keys levels root from k v → Contains (entries_at nodes keys levels root from) (k, v)
is_listed nodes keys zero root from k v h =
    let same : from ≡ k = omega (arith, h.low, h.high) in
    let one : Contains {X = ℕ × ℕ} ((from, v) ∷ []) (k, v) = (0, omega arith, ap (λ n. (n, v)) same) in
    subst (λ b. Contains (cond b (entry_of from (value_of (slice_get nodes root))) []) (k, v)) (sym (lt-ltb from keys (omega (arith, same, h.small))))
    (subst (λ o. Contains (entry_of from o) (k, v)) (sym h.value) one)
is_listed nodes keys (suc levels) root from k v h =
    let double = twice levels (suc levels) refl in
    elim (cases_lt (k - from) (2 ^ levels)) [
      | inl under ↦
          Contains-append_left (entries_at nodes keys levels (low_of (slice_get nodes root)) from) (entries_at nodes keys levels (high_of (slice_get nodes root)) (from + 2 ^ levels)) (k, v)
          (is_listed nodes keys levels (low_of (slice_get nodes root)) from k v
          (record { low = h.low; high = omega (arith, h.low, under); small = h.small; value = sym (value_below nodes (suc levels) levels root (k - from) refl under) ∙ h.value }))
      | inr over ↦
          let rest : k - (from + 2 ^ levels) ≡ (k - from) - 2 ^ levels = omega (arith, h.low, over) in
          Contains-append_right (entries_at nodes keys levels (low_of (slice_get nodes root)) from) (entries_at nodes keys levels (high_of (slice_get nodes root)) (from + 2 ^ levels)) (k, v)
          (is_listed nodes keys levels (high_of (slice_get nodes root)) (from + 2 ^ levels) k v
          (record {
            low = omega (arith, h.low, over);
            high = omega (arith, h.low, h.high, double);
            small = h.small;
            value = ap (value_at nodes levels (high_of (slice_get nodes root))) rest ∙ sym (value_above nodes (suc levels) levels root (k - from) refl over) ∙ h.value;
          }))
    ]

pub pairs_append : {X : Type 0} (R : X → X → Type 0) (xs ys : List X) → AllPairs R xs → AllPairs R ys → ((x y : X) → Contains xs x → Contains ys y → R x y) → AllPairs R (xs ++ ys)
pairs_append R xs ys left right across i j d lt within = by (cases_lt i (length xs)) (cases_lt j (length xs))
  where
    n : ℕ
    n = length xs

    by : (i < length xs) ⊎ (length xs ≤ i) → (j < length xs) ⊎ (length xs ≤ j) → R (get_or (xs ++ ys) i d) (get_or (xs ++ ys) j d)
    by (inl a) (inl b) = rw (get_or_append_left xs ys d i a, get_or_append_left xs ys d j b) (left i j d lt b)
    by (inl a) (inr b) =
        rw (get_or_append_left xs ys d i a, get_or-append_right xs ys (length xs) j d refl b)
        (across (get_or xs i d) (get_or ys (j - length xs) d) (Contains-get_or xs i d a) (Contains-get_or ys (j - length xs) d (omega (arith, within, length-append xs ys, b))))
    by (inr a) (inl b) = absurd (omega (arith, a, b, lt))
    by (inr a) (inr b) =
        rw (get_or-append_right xs ys (length xs) i d refl a, get_or-append_right xs ys (length xs) j d refl b)
        (right (i - length xs) (j - length xs) d (omega (arith, a, b, lt)) (omega (arith, within, length-append xs ys, b)))

pub listed_ascend : (nodes : List Node) (keys levels root from : ℕ) → AllPairs (λ a b. a.0 < b.0) (entries_at nodes keys levels root from)
listed_ascend nodes keys zero root from = by (nat_lt from keys) (value_of (slice_get nodes root))
  where
    by : (b : Bool) (o : Option ℕ) → AllPairs (λ a b. a.0 < b.0) (cond b (entry_of from o) [])
    by false o i j d lt within = absurd (omega (arith, within))
    by true None i j d lt within = absurd (omega (arith, within))
    by true (Some v) i j d lt within = absurd (omega (arith, lt, within))
listed_ascend nodes keys (suc levels) root from =
    pairs_append (λ a b. a.0 < b.0) (entries_at nodes keys levels (low_of (slice_get nodes root)) from) (entries_at nodes keys levels (high_of (slice_get nodes root)) (from + 2 ^ levels))
    (listed_ascend nodes keys levels (low_of (slice_get nodes root)) from) (listed_ascend nodes keys levels (high_of (slice_get nodes root)) (from + 2 ^ levels))
    (λ x y left right.
    let a = listed_is nodes keys levels (low_of (slice_get nodes root)) from x.0 x.1 left in
    let b = listed_is nodes keys levels (high_of (slice_get nodes root)) (from + 2 ^ levels) y.0 y.1 right in
    omega (arith, a.high, b.low))
