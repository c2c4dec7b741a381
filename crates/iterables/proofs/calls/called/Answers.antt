use Rattle.std.proofs.Common.{subst}
use Rattle.iterables.specs.Told.{FindsOne, IsPlain}
use Rattle.iterables.proofs.Calling.{called_other, plain_of}
use Rattle.iterables.proofs.calls.called.Goals as goal

pub returns-in_default : goal.returns-in_default
returns-in_default c = λ k h.
    subst (FindsOne (IsPlain c.args.names.now c.args.w.now c.args.c c.args.text.now)) c.in_default.is c.in_ok-m.ensures k (plain_of c.args.names.now c.args.w.now c.args.c c.args.text.now c.args.t.now k h)

pub returns-else-branch : goal.returns-else-branch
returns-else-branch c =
    called_other c.args.names.now c.args.w.now c.args.c c.args.text.now c.args.t.now c.in-Some.m
    (subst (FindsOne (IsPlain c.args.names.now c.args.w.now c.args.c c.args.text.now)) c.in-Some.is c.in_ok-m.ensures)
    (λ h. let yes = c.in_ok-has_result.ensures.1 h in absurd (cc (yes, c.if-branch.false)))
