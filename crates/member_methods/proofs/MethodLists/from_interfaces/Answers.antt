use Rattle.std.proofs.Common.{ℕ, ◌↔◌, List, sym, subst}
use Rattle.std.specs.List.{Contains}
use Rattle.std.specs.List.Sorted.{IsStrictlyIncreasing}
use Rattle.std.proofs.lemmas.List.Filters.{dedup_is}
use Rattle.std.proofs.lemmas.List.Kept.{Contains-dedup_nat, Contains-from_dedup}
use Rattle.std.proofs.lemmas.List.Sorted.{Contains-permutation, IsPermutation-sym}
use Rattle.std.proofs.lemmas.Map.Keys.{IsStrictlyIncreasing-dedup}
use Rattle.shared_maps.specs.declared.Map.{Map}
use Rattle.member_methods.specs.Methods.{IsListedAt}
use Rattle.member_methods.proofs.MethodLists.from_interfaces.Goals as goal

pub returns : goal.returns
returns c = λ w holds.
    let t = c.args.self.now in
    let owner = c.args.owner in
    let found = c.in_ok-methods.methods.items in
    let listed = subst (λ (maps : List Map). (m : ℕ) → Contains found m ↔ IsListedAt t maps owner m) c.as_slice.ensures.value c.in_ok-methods.ensures in
    let is = dedup_is _ _ _ c.dedup.ensures.filtered in
    let moved = c.sort_unstable.ensures.permutation in (
      λ m. (
        λ h. (holds.from_interfaces owner m).0 ((listed m).0 (Contains-permutation _ _ m (IsPermutation-sym _ _ moved) (Contains-from_dedup _ _ m (subst (λ l. Contains l m) is h)))),
        λ h. subst (λ l. Contains l m) (sym is) (Contains-dedup_nat _ m (Contains-permutation _ _ m moved ((listed m).1 ((holds.from_interfaces owner m).1 h)))),
      ),
      subst IsStrictlyIncreasing (sym is) (IsStrictlyIncreasing-dedup _ c.sort_unstable.ensures.sorted),
    )
