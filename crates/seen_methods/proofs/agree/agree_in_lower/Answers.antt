use Rattle.std.proofs.Common.{refl}
use Rattle.seen_methods.proofs.Belows.{lower_agrees, lower_tells}
use Rattle.seen_methods.proofs.agree.agree_in_lower.Goals as goal

pub returns-then-not-branch : goal.returns-then-not-branch
returns-then-not-branch c = (
  λ e. absurd (cc e),
  λ h. absurd (lower_tells c.args.w.now c.requires c.args.m c.args.k c.in-Some.info.now c.in-Some.ensures.some (c.is_seen.ensures.0 c.if-not-is_seen.false)
      (λ one. let yes = c.in_ok-have_one_signature.ensures.1 one in absurd (cc (yes, c.if-not-branch.true))) h),
)

pub returns-then-is_scoped-2 : goal.returns-then-is_scoped-2
returns-then-is_scoped-2 c = (
  λ e. lower_agrees c.args.w.now c.requires c.args.m c.args.k c.in-Some.info.now c.in-Some.ensures.some (c.is_scoped.ensures c.if-is_scoped.true)
      (c.is_scoped-then-is_scoped.ensures c.if-is_scoped-2.true) (c.in_ok-have_one_signature.ensures.0 c.if-not-branch.false),
  λ h. refl,
)
