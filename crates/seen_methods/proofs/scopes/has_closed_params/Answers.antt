use Rattle.std.proofs.Common.{sym, subst}
use Rattle.class_world.specs.declared.world.MethodInfo.{MethodInfo}
use Rattle.seen_methods.specs.Closed.{AreClosed}
use Rattle.seen_methods.proofs.Tells.{one_method}
use Rattle.seen_methods.proofs.scopes.has_closed_params.Goals as goal

pub returns-in-Some : goal.returns-in-Some
returns-in-Some c = (
  λ h info is.
      let same = one_method c.args.w.now c.args.m c.in-Some.info.now info c.in-Some.ensures.some is in
      subst (λ (i : MethodInfo). AreClosed i.params) same (subst AreClosed c.as_slice.ensures (c.are_closed.ensures.0 h)),
  λ closed. c.are_closed.ensures.1 (subst AreClosed (sym c.as_slice.ensures) (closed c.in-Some.info.now c.in-Some.ensures.some)),
)
