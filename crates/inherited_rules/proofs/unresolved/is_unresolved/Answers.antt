use Rattle.std.proofs.Common.{slice_index_or, refl}
use Rattle.std.specs.List.{Contains}
use Rattle.inherited_rules.specs.Parts.{AreUnresolved}
use Rattle.inherited_rules.proofs.Named.{next_clear, all_clear, has_item}
use Rattle.inherited_rules.proofs.unresolved.is_unresolved.Goals as goal

pub returns-then-branch : goal.returns-then-branch
returns-then-branch c =
    let ms = c.args.methods.now in
    let i = c.loop-k.k-index in
    (λ h. (slice_index_or ms i 0, has_item ms i c.loop-k-test.true, c.in_ok-are_unresolved.ensures.0 c.if-branch.true), λ h. refl)

pub loop-k-preserved : goal.loop-k-preserved
loop-k-preserved c =
    next_clear (AreUnresolved c.args.w.now c.args.c (Contains c.args.tops.now) c.args.m) c.args.methods.now c.loop-k.k-index c.loop-k.invariant c.loop-k-test.true
    (λ u. let yes = c.in_ok-are_unresolved.ensures.1 u in cc (yes, c.if-branch.false))

pub returns : goal.returns
returns c = (
  λ h. absurd (cc h),
  λ h. absurd (all_clear (AreUnresolved c.args.w.now c.args.c (Contains c.args.tops.now) c.args.m) c.args.methods.now c.loop-k.k-index c.loop-k.invariant c.loop-k-test.false h.0 h.1 h.2),
)
