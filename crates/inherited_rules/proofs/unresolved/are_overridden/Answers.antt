use Rattle.std.proofs.Common.{ℕ, slice_index_or, refl}
use Rattle.class_world.specs.Overriding.{Overriding}
use Rattle.inherited_rules.proofs.Named.{next_clear, all_clear, has_item}
use Rattle.inherited_rules.proofs.unresolved.are_overridden.Goals as goal

pub returns-then-overrides_both : goal.returns-then-overrides_both
returns-then-overrides_both c w holds =
    let tops = c.args.tops.now in
    let i = c.loop-t.t-index in
    let both = (c.overrides_both.ensures w holds).0 c.if-overrides_both.true in
    (λ h. (slice_index_or tops i 0, has_item tops i c.loop-t-test.true, both.0, both.1), λ h. refl)

pub loop-t-preserved : goal.loop-t-preserved
loop-t-preserved c w holds =
    next_clear (λ (t : ℕ). Overriding w t c.args.m × Overriding w t c.args.k) c.args.tops.now c.loop-t.t-index (c.loop-t.invariant w holds) c.loop-t-test.true
    (λ both. let yes = (c.overrides_both.ensures w holds).1 both in cc (yes, c.if-overrides_both.false))

pub returns : goal.returns
returns c w holds = (
  λ h. absurd (cc h),
  λ h. absurd (all_clear (λ (t : ℕ). Overriding w t c.args.m × Overriding w t c.args.k) c.args.tops.now c.loop-t.t-index (c.loop-t.invariant w holds) c.loop-t-test.false h.0 h.1 (h.2, h.3)),
)
