use Rattle.std.proofs.Common.{below_more, sym, ◌∙◌}
use Rattle.unchecked_ops.proofs.casting.holds.Goals as goal

pub returns-then-not-occurs : goal.returns-then-not-occurs
returns-then-not-occurs c = (
  λ h. absurd (cc h),
  λ all. let here = all c.loop-k.k c.loop-k-test.true in absurd (cc (here, c.occurs.ensures, c.if-not-occurs.true)),
)

pub loop-k-preserved : goal.loop-k-preserved
loop-k-preserved c = below_more _ _ c.loop-k.invariant (sym c.occurs.ensures ∙ c.if-not-occurs.false)
