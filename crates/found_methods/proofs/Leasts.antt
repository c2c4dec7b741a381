-- Families by their first methods.
use Rattle.std.proofs.Common.{◌≡◌, ℕ, ◌<◌, ◌≤◌, zero, suc, List, Some, ◌⊎◌, inl, inr, ◌↔◌, refl, ap, ◌∙◌, length, get_or, arith}
use Rattle.std.specs.List.{Contains}
use Rattle.std.specs.List.Sorted.{IsStrictlyIncreasing}
use Rattle.std.proofs.lemmas.List.Kept.{AllPairs-from_increasing}
use Rattle.std.proofs.lemmas.List.Elements.{Contains-get_or}
use Rattle.std.proofs.lemmas.Option.{slice_get_within, get_or_from_slice_get}
use Rattle.class_world.specs.declared.world.World.{World}
use Rattle.class_world.specs.Overriding as by
use Rattle.class_world.specs.Overriding.{IsFamily}
use Rattle.class_world.proofs.Substs.{there_is}
use Rattle.method_ties.specs.Sides.{AreAll}
use Rattle.overrides.specs.Families.{AreAlike, AreLabels}
use Rattle.overrides.proofs.Belows.{overriding_within}
use Rattle.overrides.proofs.Places.{contains_at}

pub family_on : {w : World} {m k x : ℕ} → IsFamily w m k → IsFamily w k x → IsFamily w m x
family_on f by.itself = f
family_on f (by.above g h) = by.above (family_on f g) h
family_on f (by.below g h) = by.below (family_on f g) h

pub family_back : {w : World} {m k : ℕ} → IsFamily w m k → IsFamily w k m
family_back by.itself = by.itself
family_back (by.above f h) = family_on (by.below by.itself h) (family_back f)
family_back (by.below f h) = family_on (by.above by.itself h) (family_back f)

pub family_within : {w : World} {m k : ℕ} → m < length w.methods → IsFamily w m k → k < length w.methods
family_within lt by.itself = lt
family_within lt (by.above f h) = (overriding_within h).1
family_within lt (by.below f h) = (overriding_within h).0

-- the first method of a family
abbrev pub IsLeast : World → ℕ → ℕ → Type 0
IsLeast w m l = IsFamily w m l × ((k : ℕ) → IsFamily w m k → l ≤ k)

zero_or_more : (j : ℕ) → (j ≡ 0) ⊎ (0 < j)
zero_or_more zero = inl refl
zero_or_more (suc j) = inr (omega arith)

first_least : (xs : List ℕ) (k : ℕ) → IsStrictlyIncreasing xs → Contains xs k → get_or xs 0 0 ≤ k
first_least xs k ascends has =
    let at = contains_at xs k has in
    let value : get_or xs at.0 0 ≡ k = get_or_from_slice_get xs at.0 k 0 at.1 in
    elim (zero_or_more at.0) [
      | inl first ↦ let same : get_or xs at.0 0 ≡ get_or xs 0 0 = ap (λ i. get_or xs i 0) first in omega (arith, value, same)
      | inr later ↦ let below = AllPairs-from_increasing xs ascends 0 at.0 0 later (slice_get_within xs at.0 k at.1) in omega (arith, value, below)
    ]

pub some_in : (xs : List ℕ) (k : ℕ) → Contains xs k → 0 < length xs
some_in xs k has = let lt = has.1 in omega (arith, lt)

pub least_is : (w : World) (m : ℕ) (xs : List ℕ) → ((k : ℕ) → Contains xs k ↔ IsFamily w m k) → IsStrictlyIncreasing xs → IsLeast w m (get_or xs 0 0)
least_is w m xs family ascends =
    let some = some_in xs m ((family m).1 by.itself) in
    ((family (get_or xs 0 0)).0 (Contains-get_or xs 0 0 some), λ k is. first_least xs k ascends ((family k).1 is))

pub labels_hold : (w : World) (labels : List ℕ) → AreAll (IsLeast w) labels (length w.methods) → AreLabels w labels
labels_hold w labels all = record {
  size = all.0;
  within = λ m l at.
      let m_lt : m < length w.methods = let lt = slice_get_within labels m l at in let size = all.0 in omega (arith, lt, size) in
      let l_lt = family_within m_lt ((all.1 m l at).0) in
      let size = all.0 in
      omega (arith, l_lt, size);
  each = λ m k lt. (
    λ alike. family_on ((all.1 m alike.0 alike.1).0) (family_back ((all.1 k alike.0 alike.2).0)),
    λ family. alike_of m k lt family,
  );
}
  where
    alike_of : (m k : ℕ) → m < length w.methods → IsFamily w m k → AreAlike labels m k
    alike_of m k lt family =
        let size = all.0 in
        let k_lt = family_within lt family in
        let a = there_is labels m (omega (arith, lt, size)) in
        let b = there_is labels k (omega (arith, k_lt, size)) in
        let of_m = all.1 m a.0 a.1 in
        let of_k = all.1 k b.0 b.1 in
        let low : a.0 ≤ b.0 = of_m.1 b.0 (family_on family of_k.0) in
        let high : b.0 ≤ a.0 = of_k.1 a.0 (family_on (family_back family) of_m.0) in
        let same : b.0 ≡ a.0 = omega (arith, low, high) in
        (a.0, a.1, b.1 ∙ ap (λ x. Some x) same)
