use Rattle.std.proofs.Common.{arith, below_more, refl}
use Rattle.unchecked_ops.proofs.Bases.{found_by, never_past, own_supers}
use Rattle.unchecked_ops.proofs.casting.some_determines.Goals as goal

pub determines_by-requires-clause-own : goal.determines_by-requires-clause-own
determines_by-requires-clause-own c = own_supers c.args.w.now c.args.own.now c.args.g c.args.n c.requires.known c.requires.own

pub returns-then-branch : goal.returns-then-branch
returns-then-branch c = (
  λ h. found_by c.args.w.now c.args.s.now c.args.g c.loop-h.h c.args.args.now (omega (arith, c.loop-h-test.true, c.in_ok-count.ensures))
      ((c.in_ok-determines_by.ensures c.args.g c.requires.known c.requires.own).0 c.if-branch.true),
  λ d. refl,
)

pub loop-h-preserved : goal.loop-h-preserved
loop-h-preserved c =
    below_more _ _ c.loop-h.invariant (λ d. let yes = (c.in_ok-determines_by.ensures c.args.g c.requires.known c.requires.own).1 d in cc (yes, c.if-branch.false))

pub returns : goal.returns
returns c = (
  λ h. absurd (cc h),
  λ d. absurd (never_past c.args.w.now c.args.s.now c.args.g c.loop-h.h c.args.args.now (omega (arith, c.loop-h-test.false, c.in_ok-count.ensures)) c.loop-h.invariant d),
)
