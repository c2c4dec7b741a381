-- Trees that have what two trees have.
use Rattle.std.proofs.Common.{◌≡◌, ℕ, suc, ◌-◌, ◌^◌, ◌<◌, ◌≤◌, List, Option, None, Some, ◌⊎◌, inl, inr, refl, sym, ap, ◌∙◌, subst, length, arith}
use Rattle.std.specs.Option.{option_or}
use Rattle.std.proofs.lemmas.Bool.{cases_lt}
use Rattle.shared_maps.specs.declared.trees.Node.{Node}
use Rattle.shared_maps.specs.Trees.{Grows, HasHalves, IsArena, value_at}
use Rattle.shared_maps.proofs.Nodes.{IsBare, grows_both, has_inside}
use Rattle.shared_maps.proofs.Walks.{twice, value_bare, value_high, value_kept, value_low}

or_same : (o : Option ℕ) → o ≡ option_or o o
or_same None = refl
or_same (Some x) = refl

or_none : (o : Option ℕ) → o ≡ option_or o None
or_none None = refl
or_none (Some x) = refl

-- the tree under one node has what two trees have, and the first's where both have something
pub record IsUnion (old : List Node) (left right : ℕ) (new : List Node) (levels number : ℕ) : Type 0 where
  pub each : (k : ℕ) → k < 2 ^ levels → value_at new levels number k ≡ option_or (value_at old levels left k) (value_at old levels right k)

pub union_same : (nodes : List Node) (levels left right : ℕ) → left ≡ right → IsUnion nodes left right nodes levels left
union_same nodes levels left right same =
    subst (λ n. IsUnion nodes left n nodes levels left) same (record { each = λ k within. or_same (value_at nodes levels left k) })

pub union_with_none : (nodes : List Node) → IsArena nodes → (levels left right : ℕ) → IsBare nodes right → IsUnion nodes left right nodes levels left
union_with_none nodes arena levels left right bare = record {
  each = λ k within. or_none (value_at nodes levels left k) ∙ ap (λ o. option_or (value_at nodes levels left k) o) (sym (value_bare nodes arena levels right k bare));
}

pub union_of_none : (nodes : List Node) → IsArena nodes → (levels left right : ℕ) → IsBare nodes left → IsUnion nodes left right nodes levels right
union_of_none nodes arena levels left right bare = record {
  each = λ k within. ap (λ o. option_or o (value_at nodes levels right k)) (sym (value_bare nodes arena levels left k bare));
}

module _ (old mid late new : List Node) (levels less left left_low left_high right right_low right_high low high number : ℕ) (e : levels ≡ suc less)
    (arena : IsArena old) (arena' : IsArena mid) (arena'' : IsArena late) (grows : Grows old mid) (grows' : Grows mid late) (grows'' : Grows late new)
    (of_left : HasHalves old left left_low left_high) (of_right : HasHalves old right right_low right_high) (within : low < length mid) (within' : high < length late) where
  -- the upper half of a tree that was there
  kept_high : (root l h k : ℕ) → HasHalves old root l h → 2 ^ less ≤ k → value_at mid less h (k - 2 ^ less) ≡ value_at old levels root k
  kept_high root l h k has over =
      value_kept old mid arena grows less h (k - 2 ^ less) (has_inside old arena root l h has).1
      ∙ sym (value_high old levels less root l h k e has over)

  pub union_halves : IsUnion old left_low right_low mid less low → IsUnion mid left_high right_high late less high → HasHalves new number low high → IsUnion old left right new levels number
  union_halves first second is = record { each = λ k lt. by k lt (cases_lt k (2 ^ less)) }
    where
      by : (k : ℕ) → k < 2 ^ levels → (k < 2 ^ less) ⊎ (2 ^ less ≤ k) → value_at new levels number k ≡ option_or (value_at old levels left k) (value_at old levels right k)
      by k lt (inl under) =
          value_low new levels less number low high k e is under ∙ value_kept mid new arena' (grows_both mid late new grows' grows'') less low k within ∙ first.each k under
          ∙ ap (λ o. option_or o (value_at old less right_low k)) (sym (value_low old levels less left left_low left_high k e of_left under))
          ∙ ap (λ o. option_or (value_at old levels left k) o) (sym (value_low old levels less right right_low right_high k e of_right under))
      by k lt (inr over) =
          value_high new levels less number low high k e is over ∙ value_kept late new arena'' grows'' less high (k - 2 ^ less) within'
          ∙ second.each (k - 2 ^ less) (omega (arith, lt, twice less levels e, over))
          ∙ ap (λ o. option_or o (value_at mid less right_high (k - 2 ^ less))) (kept_high left left_low left_high k of_left over)
          ∙ ap (λ o. option_or (value_at old levels left k) o) (kept_high right right_low right_high k of_right over)
