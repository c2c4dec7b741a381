use Rattle.std.proofs.Common.{◌↔◌, List, subst}
use Rattle.std.specs.List.{Contains}
use Rattle.shared_maps.specs.declared.Map.{Map}
use Rattle.member_methods.specs.Methods.{IsListedAt}
use Rattle.member_methods.proofs.Maps.{if_ok}
use Rattle.member_methods.proofs.MethodLists.all.Goals as goal

pub returns : goal.returns
returns c = λ w holds.
    let t = c.args.self.now in
    let owner = c.args.owner in
    if_ok c.all_listed.result _ _ (λ v has m.
    let listed = subst (λ (maps : List Map). Contains v.items m ↔ IsListedAt t maps owner m) c.as_slice.ensures.value (has m) in
    let is = holds.members owner m in (
      λ h. is.0 (listed.0 h),
      λ h. listed.1 (is.1 h),
    )) c.all_listed.ensures
