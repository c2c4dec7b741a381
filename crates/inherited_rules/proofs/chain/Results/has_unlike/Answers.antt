use Rattle.std.proofs.Common.{Option, List, IsTrue, ◌↔◌, subst}
use Rattle.class_world.specs.declared.world.JavaType.{JavaType}
use Rattle.inherited_rules.specs.Chains.{IsAnyUnlike}
use Rattle.inherited_rules.proofs.Sorts.{unlike_sorts}
use Rattle.inherited_rules.proofs.chain.Results.has_unlike.Goals as goal

pub returns : goal.returns
returns c =
    let w = c.args.w.now in
    let t = c.args.self.now in
    let bare = subst (λ (l : List (Option JavaType)). IsTrue c.is_any_unlike.result ↔ IsAnyUnlike w l c.as_slice-2.result.now) c.as_slice.ensures.value c.is_any_unlike.ensures in
    let both = subst (λ (l : List (Option JavaType)). IsTrue c.is_any_unlike.result ↔ IsAnyUnlike w t.bare.items l) c.as_slice-2.ensures.value bare in
    let sorts = unlike_sorts w c.requires.sound t c.requires.kept in
    (λ h. sorts.1 (both.0 h), λ h. both.1 (sorts.0 h))
