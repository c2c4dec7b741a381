use Rattle.std.proofs.Common.{◌≡◌, ◌++◌, ◌∙◌, inl, inr, sym, ap, subst}
use Rattle.std.specs.List.{Contains}
use Rattle.std.proofs.lemmas.List.Filters.{dedup_is}
use Rattle.std.proofs.lemmas.List.Elements.{Contains-append_left, Contains-append_right, Contains-append_cases}
use Rattle.std.proofs.lemmas.List.Kept.{Contains-dedup_nat, Contains-from_dedup}
use Rattle.std.proofs.lemmas.List.Sorted.{Contains-permutation, IsPermutation-sym}
use Rattle.std.proofs.lemmas.Map.Keys.{IsStrictlyIncreasing-dedup}
use Rattle.member_methods.proofs.lists.union.Goals as goal

pub returns-clause-ascending : goal.returns-clause-ascending
returns-clause-ascending c = rw (dedup_is _ _ _ c.dedup.ensures.filtered) (IsStrictlyIncreasing-dedup _ c.sort_unstable.ensures.sorted)

pub returns-clause-has : goal.returns-clause-has
returns-clause-has c =
    let is = dedup_is _ _ _ c.dedup.ensures.filtered in
    let moved = c.sort_unstable.ensures.permutation in
    let all : c.extend_from_slice.new.self.items ≡ c.args.xs.now ++ c.args.ys.now = c.in_ok-extend_from_slice.ensures.items ∙ ap (λ l. l ++ c.args.ys.now) c.in_ok-both.ensures.items in
    λ m. (
      λ h. Contains-append_cases c.args.xs.now c.args.ys.now m
          (subst (λ l. Contains l m) all (Contains-permutation _ _ m (IsPermutation-sym _ _ moved) (Contains-from_dedup _ _ m (subst (λ l. Contains l m) is h)))),
      λ h. subst (λ l. Contains l m) (sym is) (Contains-dedup_nat _ m (Contains-permutation _ _ m moved (subst (λ l. Contains l m) (sym all) (elim h [
        | inl x ↦ Contains-append_left c.args.xs.now c.args.ys.now m x
        | inr y ↦ Contains-append_right c.args.xs.now c.args.ys.now m y
      ])))),
    )
