use Rattle.std.proofs.Common.{subst}
use Rattle.iterables.specs.Walks.{IsCounted}
use Rattle.iterables.specs.Told.{FindsOne}
use Rattle.iterables.proofs.Calling.{plain_some, plain_throws}
use Rattle.iterables.proofs.members.plain.Goals as goal

pub returns-then-throws_nothing : goal.returns-then-throws_nothing
returns-then-throws_nothing c =
    plain_some c.args.names.now c.args.w.now c.args.c c.args.text.now c.in-Some.name c.in-Some.ensures.one c.in-Some-2.m c.in-Some.ensures.some
    (subst (FindsOne (IsCounted c.args.w.now c.args.c c.in-Some.name)) c.in-Some-2.is c.in_ok-m.ensures) (c.throws_nothing.ensures.0 c.if-throws_nothing.true)

pub returns-else-throws_nothing : goal.returns-else-throws_nothing
returns-else-throws_nothing c =
    plain_throws c.args.names.now c.args.w.now c.args.c c.args.text.now c.in-Some.name c.in-Some.ensures.one c.in-Some-2.m
    (subst (FindsOne (IsCounted c.args.w.now c.args.c c.in-Some.name)) c.in-Some-2.is c.in_ok-m.ensures) (λ h. let yes = c.throws_nothing.ensures.1 h in absurd (cc (yes, c.if-throws_nothing.false)))
