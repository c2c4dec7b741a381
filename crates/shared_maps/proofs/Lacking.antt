-- The first key that one tree has and another has not.
use Rattle.std.proofs.Common.{◌≡◌, ℕ, suc, ◌+◌, ◌-◌, ◌^◌, ◌<◌, ◌≤◌, List, Option, None, Some, inl, inr, ◌↔◌, refl, sym, ap, ◌∙◌, subst, arith}
use Rattle.std.specs.Prelude.{slice_get}
use Rattle.std.proofs.lemmas.Bool.{cases_lt}
use Rattle.shared_maps.specs.declared.Map.{Map}
use Rattle.shared_maps.specs.declared.trees.Node.{Node}
use Rattle.shared_maps.specs.Trees.{HasHalves, IsArena, IsFirst, LacksFrom, Memory, OnlyRight, value_at, value_of}
use Rattle.shared_maps.specs.Maps.{IsLacking, value_in}
use Rattle.shared_maps.proofs.Nodes.{IsBare}
use Rattle.shared_maps.proofs.Walks.{twice, value_bare, value_high, value_low}
use Rattle.shared_maps.proofs.Differing.{none_never}
use Rattle.shared_maps.proofs.Views.{value_inside, value_within}

pub only_right_as : (a b c d : Option ℕ) → a ≡ b → c ≡ d → OnlyRight a c → OnlyRight b d
only_right_as a b c d p q h = (h.0, sym p ∙ h.1, sym q ∙ h.2)

-- ---- trees that lack nothing

module _ (nodes : List Node) (levels left right from k : ℕ) where
  pub same_lacks : left ≡ right → LacksFrom nodes levels left right from k → ⊥
  same_lacks same h = none_never (value_at nodes levels left k) h.values.0 h.values.1 (ap (λ n. value_at nodes levels n k) same ∙ h.values.2)

  pub bare_lacks : IsArena nodes → IsBare nodes right → LacksFrom nodes levels left right from k → ⊥
  bare_lacks arena bare h = none_never (value_at nodes levels right k) h.values.0 (value_bare nodes arena levels right k bare) h.values.2

-- ---- trees of no levels, which have one key

module _ (nodes : List Node) (levels left right from : ℕ) (e : levels ≡ 0) where
  pub alone_lacks : (k : ℕ) → LacksFrom nodes levels left right from k → (from ≡ 0) × OnlyRight (value_of (slice_get nodes left)) (value_of (slice_get nodes right))
  alone_lacks k h =
      let alone : LacksFrom nodes 0 left right from k = subst (λ n. LacksFrom nodes n left right from k) e h in
      (omega (arith, alone.within, alone.large), alone.values)

  pub lacks_alone : from ≡ 0 → OnlyRight (value_of (slice_get nodes left)) (value_of (slice_get nodes right)) → IsFirst (LacksFrom nodes levels left right from) (Some 0)
  lacks_alone first values =
      (subst (λ n. LacksFrom nodes n left right from 0) (sym e) (record { within = omega arith; large = omega (arith, first); values = values }), λ k h. omega arith)

-- ---- trees of two halves

module _ (nodes : List Node) (levels less left left_low left_high right right_low right_high from half : ℕ) (e : levels ≡ suc less) (is_half : half ≡ 2 ^ less)
    (of_left : HasHalves nodes left left_low left_high) (of_right : HasHalves nodes right right_low right_high) where
  low_values : (k : ℕ) → k < 2 ^ less → OnlyRight (value_at nodes levels left k) (value_at nodes levels right k) ↔ OnlyRight (value_at nodes less left_low k) (value_at nodes less right_low k)
  low_values k under = (
    only_right_as (value_at nodes levels left k) (value_at nodes less left_low k) (value_at nodes levels right k) (value_at nodes less right_low k) a b,
    only_right_as (value_at nodes less left_low k) (value_at nodes levels left k) (value_at nodes less right_low k) (value_at nodes levels right k) (sym a) (sym b),
  )
    where
      a : value_at nodes levels left k ≡ value_at nodes less left_low k
      a = value_low nodes levels less left left_low left_high k e of_left under

      b : value_at nodes levels right k ≡ value_at nodes less right_low k
      b = value_low nodes levels less right right_low right_high k e of_right under

  high_values : (k j : ℕ) → k ≡ half + j → OnlyRight (value_at nodes levels left k) (value_at nodes levels right k) ↔ OnlyRight (value_at nodes less left_high j) (value_at nodes less right_high j)
  high_values k j is = (
    only_right_as (value_at nodes levels left k) (value_at nodes less left_high j) (value_at nodes levels right k) (value_at nodes less right_high j) a b,
    only_right_as (value_at nodes less left_high j) (value_at nodes levels left k) (value_at nodes less right_high j) (value_at nodes levels right k) (sym a) (sym b),
  )
    where
      over : 2 ^ less ≤ k
      over = omega (arith, is, is_half)

      rest : k - 2 ^ less ≡ j
      rest = omega (arith, is, is_half)

      a : value_at nodes levels left k ≡ value_at nodes less left_high j
      a = value_high nodes levels less left left_low left_high k e of_left over ∙ ap (value_at nodes less left_high) rest

      b : value_at nodes levels right k ≡ value_at nodes less right_high j
      b = value_high nodes levels less right right_low right_high k e of_right over ∙ ap (value_at nodes less right_high) rest

  low_lacks : (k : ℕ) → k < half → LacksFrom nodes levels left right from k → LacksFrom nodes less left_low right_low from k
  low_lacks k under h =
      let lt : k < 2 ^ less = omega (arith, under, is_half) in
      record { within = lt; large = h.large; values = (low_values k lt).0 h.values }

  -- the first one is in the lower halves
  pub first_in_low : (key : ℕ) → IsFirst (LacksFrom nodes less left_low right_low from) (Some key) → IsFirst (LacksFrom nodes levels left right from) (Some key)
  first_in_low key h = (
    record {
      within = let double = twice less levels e in omega (arith, h.0.within, double);
      large = h.0.large;
      values = (low_values key h.0.within).1 h.0.values;
    },
    λ k is. elim (cases_lt k half) [
      | inl under ↦ h.1 k (low_lacks k under is)
      | inr over ↦ let lt = h.0.within in omega (arith, over, lt, is_half)
    ],
  )

  -- the lower halves have none
  abbrev pub HasNoneBelow : Type 0
  HasNoneBelow = (k : ℕ) → k < half → LacksFrom nodes levels left right from k → ⊥

  pub none_below_from : half ≤ from → HasNoneBelow
  none_below_from le k lt h = let large = h.large in absurd (omega (arith, le, lt, large))

  pub none_in_low : IsFirst (LacksFrom nodes less left_low right_low from) None → HasNoneBelow
  none_in_low none k lt h = none k (low_lacks k lt h)

  module _ (rest : ℕ) (is_rest : rest ≡ from - half) (below : HasNoneBelow) where
    high_lacks : (k : ℕ) → LacksFrom nodes levels left right from k → (half ≤ k) × LacksFrom nodes less left_high right_high rest (k - half)
    high_lacks k h = elim (cases_lt k half) [
      | inl under ↦ absurd (below k under h)
      | inr over ↦
          let within = h.within in
          let large = h.large in
          let double = twice less levels e in (
            over,
            record {
              within = omega (arith, within, double, over, is_half);
              large = omega (arith, is_rest, large, over);
              values = (high_values k (k - half) (let s : k ≡ half + (k - half) = omega (arith, over) in s)).0 h.values;
            },
          )
    ]

    pub none_in_high : IsFirst (LacksFrom nodes less left_high right_high rest) None → (k : ℕ) → LacksFrom nodes levels left right from k → ⊥
    none_in_high none k h = none (k - half) (high_lacks k h).1

    pub first_in_high : (key : ℕ) → IsFirst (LacksFrom nodes less left_high right_high rest) (Some key) → IsFirst (LacksFrom nodes levels left right from) (Some (half + key))
    first_in_high key h = (
      record {
        within = let within = h.0.within in let double = twice less levels e in omega (arith, within, double, is_half);
        large = let large = h.0.large in omega (arith, is_rest, large);
        values = (high_values (half + key) key refl).1 h.0.values;
      },
      λ k is. let at = high_lacks k is in let le = h.1 (k - half) at.1 in omega (arith, le, at.0),
    )

-- ---- maps of a memory

module _ (m : Memory) (left right : Map) (from : ℕ) where
  lacks_at : m.keys ≤ 2 ^ m.height → (k : ℕ) → IsLacking (value_in m left) (value_in m right) from k → (k < m.keys) × LacksFrom m.nodes m.height left.number right.number from k
  lacks_at enough k h =
      let small = value_within m right k h.values.0 h.values.2 in (
        small,
        record {
          within = omega (arith, small, enough);
          large = h.large;
          values =
              only_right_as (value_in m left k) (value_at m.nodes m.height left.number k) (value_in m right k) (value_at m.nodes m.height right.number k) (value_inside m left k small)
              (value_inside m right k small) h.values;
        },
      )

  pub none_lacking : m.keys ≤ 2 ^ m.height → IsFirst (LacksFrom m.nodes m.height left.number right.number from) None → (k : ℕ) → IsLacking (value_in m left) (value_in m right) from k → ⊥
  none_lacking enough none k h = none k (lacks_at enough k h).1

  pub past_lacking : m.keys ≤ 2 ^ m.height → (key : ℕ) → m.keys ≤ key → IsFirst (LacksFrom m.nodes m.height left.number right.number from) (Some key) → (k : ℕ)
      → IsLacking (value_in m left) (value_in m right) from k → ⊥
  past_lacking enough key past first k h = let at = lacks_at enough k h in let le = first.1 k at.1 in absurd (omega (arith, le, at.0, past))

  pub first_is : m.keys ≤ 2 ^ m.height → (key : ℕ) → key < m.keys → IsFirst (LacksFrom m.nodes m.height left.number right.number from) (Some key)
      → IsFirst (IsLacking (value_in m left) (value_in m right) from) (Some key)
  first_is enough key small first = (
    record {
      large = first.0.large;
      values =
          only_right_as (value_at m.nodes m.height left.number key) (value_in m left key) (value_at m.nodes m.height right.number key) (value_in m right key) (sym (value_inside m left key small))
          (sym (value_inside m right key small)) first.0.values;
    },
    λ k h. first.1 k (lacks_at enough k h).1,
  )
