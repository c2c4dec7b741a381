use Rattle.std.proofs.Common.{subst}
use Rattle.std.specs.Prelude.{codes}
use Rattle.iterables.specs.Walks.{iterator_type}
use Rattle.iterables.specs.Told.{FindsOne, IsPlain, GivesIterator}
use Rattle.iterables.proofs.Calling.{made_none, made_some, plain_of}
use Rattle.iterables.proofs.calls.made.Goals as goal

pub returns-in_default : goal.returns-in_default
returns-in_default c = λ x h.
    subst (FindsOne (IsPlain c.args.names.now c.args.w.now c.args.c (codes "iterator"))) c.in_default.is c.in_ok-method.ensures x.method
    (plain_of c.args.names.now c.args.w.now c.args.c (codes "iterator") (iterator_type x.iterators) x.method h)

pub returns-in_default-2 : goal.returns-in_default-2
returns-in_default-2 c =
    made_none c.args.names.now c.args.w.now c.args.c c.in-Some.method (subst (FindsOne (IsPlain c.args.names.now c.args.w.now c.args.c (codes "iterator"))) c.in-Some.is c.in_ok-method.ensures)
    (subst (FindsOne (GivesIterator c.args.w.now c.args.c c.in-Some.method)) c.in_default-2.is c.in_ok-iterators.ensures)

pub returns : goal.returns
returns c =
    made_some c.args.names.now c.args.w.now c.args.c c.in-Some.method c.in-Some-2.iterators
    (subst (FindsOne (IsPlain c.args.names.now c.args.w.now c.args.c (codes "iterator"))) c.in-Some.is c.in_ok-method.ensures)
    (subst (FindsOne (GivesIterator c.args.w.now c.args.c c.in-Some.method)) c.in-Some-2.is c.in_ok-iterators.ensures)
