use Rattle.std.proofs.Common.{ℕ, ◌<◌, ◌+◌, ◌↔◌, List, sym, subst, arith}
use Rattle.std.specs.List.{Contains}
use Rattle.override_rules.proofs.Listed.{more_items}
use Rattle.override_rules.proofs.order.all_methods.Goals as goal

pub loop-m-preserved : goal.loop-m-preserved
loop-m-preserved c =
    subst (λ (l : List ℕ). (m : ℕ) → Contains l m ↔ (m < c.loop-m.m + 1)) (sym c.in_ok-push.ensures.items) (more_items c.loop-m.methods.items c.loop-m.m c.loop-m.invariant)

pub returns : goal.returns
returns c m = (
  λ h. let lt = (c.loop-m.invariant m).0 h in omega (arith, lt, c.loop-m.auto.m-end, c.len-m-end.ensures),
  λ lt. (c.loop-m.invariant m).1 (omega (arith, lt, c.loop-m-test.false, c.len-m-end.ensures)),
)
