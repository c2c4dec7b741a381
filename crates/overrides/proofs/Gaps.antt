-- How many places of a table are empty.
use Rattle.std.proofs.Common.{◌≡◌, ℕ, zero, suc, ◌+◌, ◌<◌, ◌≤◌, Option, Some, None, ◌⊎◌, inl, inr, refl, sym, ap, ◌∙◌, length, arith}
use Rattle.std.specs.Prelude.{slice_get}
use Rattle.std.proofs.lemmas.Option.{slice_get_within}
use Rattle.shared_maps.specs.declared.Map.{Map}
use Rattle.shared_maps.proofs.Views.{value_within}
use Rattle.overrides.specs.Tables.{Rows, AreOfOneSize, Has, value_of, value_at}
use Rattle.overrides.specs.Rounds.{Grows, Gains}

abbrev pub gap : Option ℕ → ℕ
gap None = 1
gap (Some v) = 0

-- of the keys below n
abbrev pub gaps : (ℕ → Option ℕ) → ℕ → ℕ
gaps f zero = 0
gaps f (suc n) = gap (f n) + gaps f n

-- in the first rows
abbrev pub gaps_in : (ℕ → ℕ → Option ℕ) → ℕ → ℕ → ℕ
gaps_in f n zero = 0
gaps_in f n (suc rows) = gaps (f rows) n + gaps_in f n rows

abbrev pub left : Rows → ℕ
left t = gaps_in (value_at t) t.maps.keys (length t.rows)

abbrev IsKept : (o p : Option ℕ) → Type 0
IsKept o p = (v : ℕ) × (o ≡ Some v) → (u : ℕ) × (p ≡ Some u)

fewer_gap : (o p : Option ℕ) → IsKept o p → gap p ≤ gap o
fewer_gap None None h = omega arith
fewer_gap None (Some u) h = omega arith
fewer_gap (Some v) None h = let u = h (v, refl) in absurd (cc u.1)
fewer_gap (Some v) (Some u) h = omega arith

module _ (f g : ℕ → Option ℕ) (kept : (k : ℕ) → IsKept (f k) (g k)) where
  fewer_gaps : (n : ℕ) → gaps g n ≤ gaps f n
  fewer_gaps zero = omega arith
  fewer_gaps (suc n) = let here = fewer_gap (f n) (g n) (kept n) in let rest = fewer_gaps n in omega (arith, here, rest)

  less_gaps : (n k : ℕ) → k < n → f k ≡ None → (u : ℕ) → g k ≡ Some u → gaps g n < gaps f n
  less_gaps zero k lt none u some = absurd (omega (arith, lt))
  less_gaps (suc n) k lt none u some = by (λ low. less_gaps n k low none u some) (low_or_last lt)
    where
      low_or_last : k < suc n → (k < n) ⊎ (n ≡ k)
      low_or_last lt = grind (arith, lt)

      by : (k < n → gaps g n < gaps f n) → (k < n) ⊎ (n ≡ k) → gaps g (suc n) < gaps f (suc n)
      by less (inl low) = let here = fewer_gap (f n) (g n) (kept n) in let rest = less low in omega (arith, here, rest)
      by less (inr last) =
          let old : gap (f n) ≡ 1 = ap (λ i. gap (f i)) last ∙ ap gap none in
          let new : gap (g n) ≡ 0 = ap (λ i. gap (g i)) last ∙ ap gap some in
          let rest = fewer_gaps n in
          omega (arith, old, new, rest)

module _ (f g : ℕ → ℕ → Option ℕ) (kept : (m k : ℕ) → IsKept (f m k) (g m k)) (n : ℕ) where
  fewer_gaps_in : (rows : ℕ) → gaps_in g n rows ≤ gaps_in f n rows
  fewer_gaps_in zero = omega arith
  fewer_gaps_in (suc rows) = let here = fewer_gaps (f rows) (g rows) (kept rows) n in let rest = fewer_gaps_in rows in omega (arith, here, rest)

  less_gaps_in : (rows m k : ℕ) → m < rows → k < n → f m k ≡ None → (u : ℕ) → g m k ≡ Some u → gaps_in g n rows < gaps_in f n rows
  less_gaps_in zero m k lt small none u some = absurd (omega (arith, lt))
  less_gaps_in (suc rows) m k lt small none u some = by (λ low. less_gaps_in rows m k low small none u some) (low_or_last lt)
    where
      low_or_last : m < suc rows → (m < rows) ⊎ (m ≡ rows)
      low_or_last lt = grind (arith, lt)

      by : (m < rows → gaps_in g n rows < gaps_in f n rows) → (m < rows) ⊎ (m ≡ rows) → gaps_in g n (suc rows) < gaps_in f n (suc rows)
      by less (inl low) = let here = fewer_gaps (f rows) (g rows) (kept rows) n in let rest = less low in omega (arith, here, rest)
      by less (inr last) =
          let none_here : f rows k ≡ None = ap (λ i. f i k) (sym last) ∙ none in
          let some_here : g rows k ≡ Some u = ap (λ i. g i k) (sym last) ∙ some in
          let here = less_gaps (f rows) (g rows) (kept rows) n k small none_here u some_here in
          let rest = fewer_gaps_in rows in
          omega (arith, here, rest)

nothing_there : (o : Option ℕ) → ((v : ℕ) × (o ≡ Some v) → ⊥) → o ≡ None
nothing_there None h = refl
nothing_there (Some v) h = absurd (h (v, refl))

-- a value stands in one of the rows, at a key below the limit
pub has_within : (t : Rows) (m k : ℕ) → Has t m k → (m < length t.rows) × (k < t.maps.keys)
has_within t m k h = go (slice_get t.rows m) refl h
  where
    go : (o : Option Map) → slice_get t.rows m ≡ o → (v : ℕ) × (value_of t.maps o k ≡ Some v) → (m < length t.rows) × (k < t.maps.keys)
    go None is has = absurd (cc has.1)
    go (Some map) is has = (slice_get_within t.rows m map is, value_within t.maps map k has.0 has.1)

pub fewer_left : (old new : Rows) → AreOfOneSize old new → Grows old new → Gains old new → left new < left old
fewer_left old new size grows gains =
    let at = has_within new gains.0 gains.1 gains.3 in
    let less = less_gaps_in (value_at old) (value_at new) (λ m k h. grows m k h) old.maps.keys (length old.rows) gains.0 gains.1 (omega (arith, at.0, size.rows)) (omega (arith, at.1, size.keys))
    (nothing_there (value_at old gains.0 gains.1) gains.2) gains.3.0 gains.3.1 in
    let same : left new ≡ gaps_in (value_at new) old.maps.keys (length old.rows) =
    ap (λ n. gaps_in (value_at new) n (length new.rows)) size.keys ∙ ap (gaps_in (value_at new) old.maps.keys) size.rows in
    omega (arith, less, same)
