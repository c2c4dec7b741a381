use Rattle.std.proofs.Common.{ℕ, slice_index_or, refl}
use Rattle.std.specs.List.{Contains}
use Rattle.class_world.specs.Overriding.{Overriding}
use Rattle.inherited_rules.specs.Parts.{IsUnresolvedWith}
use Rattle.inherited_rules.proofs.Judged.{all_beside}
use Rattle.inherited_rules.proofs.Named.{next_clear, has_item}
use Rattle.inherited_rules.proofs.unresolved.is_any_unresolved.Goals as goal

pub returns-then-branch : goal.returns-then-branch
returns-then-branch c =
    let ms = c.args.methods.now in
    let i = c.loop-m.m-index in
    let found = c.in_ok-is_beside.ensures.0 c.if-branch.true in
    (λ h. (slice_index_or ms i 0, found.1.0, has_item ms i c.loop-m-test.true, found.1.1, found.1.2), λ h. refl)

pub loop-m-preserved : goal.loop-m-preserved
loop-m-preserved c =
    next_clear (λ (m : ℕ). (Overriding c.args.w.now c.args.first m → ⊥) × IsUnresolvedWith c.args.w.now c.args.c (Contains c.args.tops.now) c.args.methods.now m) c.args.methods.now c.loop-m.m-index c.loop-m.invariant
    c.loop-m-test.true (λ beside. let yes = c.in_ok-is_beside.ensures.1 beside in cc (yes, c.if-branch.false))

pub returns : goal.returns
returns c = (
  λ h. absurd (cc h),
  λ h. absurd (all_beside c.args.w.now c.args.c c.args.tops.now c.args.methods.now c.args.first c.loop-m.m-index c.requires.first c.loop-m.invariant c.loop-m-test.false h),
)
