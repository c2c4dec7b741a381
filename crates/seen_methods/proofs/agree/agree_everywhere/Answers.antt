use Rattle.std.proofs.Common.{refl, arith}
use Rattle.seen_methods.proofs.Tells.{agree_all, agree_next, not_agree}
use Rattle.seen_methods.proofs.agree.agree_everywhere.Goals as goal
use Rattle.seen_methods.proofs.agree.agree_everywhere.Goals.{else-is_seen-via-then-is_seen+then-is_seen-2+in_ok-have_one_signature+else-not-branch, else-is_seen-via-then-is_seen+else-is_seen-2, else-is_seen-via-else-is_seen}

pub returns-then-not-branch : goal.returns-then-not-branch
returns-then-not-branch c = (
  λ e. absurd (cc e),
  λ h. absurd (not_agree c.args.w.now c.args.m c.args.k c.loop-c.c (c.is_seen.ensures.0 c.if-is_seen.true) (c.is_seen-then-is_seen.ensures.0 c.if-is_seen-2.true)
      (λ one. let yes = c.in_ok-have_one_signature.ensures.1 one in absurd (cc (yes, c.if-not-branch.true))) h),
)

pub loop-c-preserved : goal.loop-c-preserved
loop-c-preserved c = agree_next c.args.w.now c.args.m c.args.k c.loop-c.c c.loop-c.invariant (elim c.else-is_seen.branch [
  | else-is_seen-via-then-is_seen+then-is_seen-2+in_ok-have_one_signature+else-not-branch w ↦ λ a b. w.in_ok-have_one_signature.ensures.0 w.if-not-branch.false
  | else-is_seen-via-then-is_seen+else-is_seen-2 w ↦ λ a b. let yes = w.is_seen-then-is_seen.ensures.1 b in absurd (cc (yes, w.if-is_seen-2.false))
  | else-is_seen-via-else-is_seen w ↦ λ a b. let yes = c.is_seen.ensures.1 a in absurd (cc (yes, w.if-is_seen.false))
])

pub returns : goal.returns
returns c = (
  λ e. agree_all c.args.w.now c.args.m c.args.k c.loop-c.c c.loop-c.invariant (λ d lt. omega (arith, lt, c.loop-c-test.false, c.len-c-end.ensures)),
  λ h. refl,
)
