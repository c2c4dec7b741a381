use Rattle.std.proofs.Common.{slice_index_or, refl}
use Rattle.inherited_rules.specs.Parts.{IsUnmet}
use Rattle.inherited_rules.proofs.Named.{next_clear, all_clear, has_item}
use Rattle.inherited_rules.proofs.bodies.is_any_unmet.Goals as goal

pub is_unmet-requires-clause-member : goal.is_unmet-requires-clause-member
is_unmet-requires-clause-member c = let ms = c.args.members.now in let i = c.loop-m.m-index in (c.requires.members (slice_index_or ms i 0)).0 (has_item ms i c.loop-m-test.true)

pub loop-m-preserved : goal.loop-m-preserved
loop-m-preserved c =
    next_clear (IsUnmet c.args.w.now c.args.c) c.args.members.now c.loop-m.m-index c.loop-m.invariant c.loop-m-test.true (λ unmet. let yes = c.in_ok-is_unmet.ensures.1 unmet in cc (yes, c.if-branch.false))

pub returns : goal.returns
returns c = (
  λ h. absurd (cc h),
  λ h. absurd (all_clear (IsUnmet c.args.w.now c.args.c) c.args.members.now c.loop-m.m-index c.loop-m.invariant c.loop-m-test.false h.0 ((c.requires.members h.0).1 h.1) h.2),
)

pub returns-then-branch : goal.returns-then-branch
returns-then-branch c =
    let ms = c.args.members.now in
    let m = slice_index_or ms c.loop-m.m-index 0 in
    (λ h. (m, (c.requires.members m).0 (has_item ms c.loop-m.m-index c.loop-m-test.true), c.in_ok-is_unmet.ensures.0 c.if-branch.true), λ h. refl)
