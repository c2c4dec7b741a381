use Rattle.std.proofs.lemmas.List.Sorted.{Contains-permutation, IsPermutation-sym}
use Rattle.override_rules.proofs.order.in_order.Goals as goal

pub returns : goal.returns
returns c m =
    let old = c.in_ok-methods.methods.items in
    let new = c.sort_by_key.new.self.items in
    let same = c.sort_by_key.ensures.permutation in
    let all = c.in_ok-methods.ensures m in
    (λ h. all.0 (Contains-permutation new old m (IsPermutation-sym old new same) h), λ lt. Contains-permutation old new m same (all.1 lt))
