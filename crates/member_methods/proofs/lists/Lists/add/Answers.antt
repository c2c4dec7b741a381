use Rattle.std.proofs.Common.{◌∙◌, sym, subst}
use Rattle.std.specs.List.{Contains}
use Rattle.std.specs.List.Sorted.{IsStrictlyIncreasing}
use Rattle.std.proofs.lemmas.List.Filters.{dedup_is}
use Rattle.std.proofs.lemmas.List.Kept.{Contains-dedup_nat, Contains-from_dedup}
use Rattle.std.proofs.lemmas.List.Sorted.{Contains-permutation, IsPermutation-sym}
use Rattle.std.proofs.lemmas.Map.Keys.{IsStrictlyIncreasing-dedup}
use Rattle.member_methods.proofs.Maps.{if_ok}
use Rattle.member_methods.proofs.Arena.{list_says}
use Rattle.member_methods.proofs.lists.Lists.add.Goals as goal

pub push-requires : goal.push-requires
push-requires c =
    let is = dedup_is _ _ _ c.dedup.ensures.filtered in
    subst IsStrictlyIncreasing (sym (c.as_slice.ensures.value ∙ is)) (IsStrictlyIncreasing-dedup _ c.sort_unstable.ensures.sorted)

pub returns : goal.returns
returns c =
    let is = dedup_is _ _ _ c.dedup.ensures.filtered in
    let moved = c.sort_unstable.ensures.permutation in
    if_ok c.push.result _ _ (λ n h. list_says c.args.self.now c.push.new.self n (Contains c.as_slice.result.now) (Contains c.args.numbers.items) (λ m. (
      λ x. Contains-permutation _ _ m (IsPermutation-sym _ _ moved) (Contains-from_dedup _ _ m (subst (λ l. Contains l m) (c.as_slice.ensures.value ∙ is) x)),
      λ x. subst (λ l. Contains l m) (sym (c.as_slice.ensures.value ∙ is)) (Contains-dedup_nat _ m (Contains-permutation _ _ m moved x)),
    )) h) c.push.ensures
