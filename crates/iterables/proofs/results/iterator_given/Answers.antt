use Rattle.std.proofs.Common.{subst}
use Rattle.iterables.specs.Walks.{iterator_type}
use Rattle.iterables.specs.Told.{FindsOne, Gives}
use Rattle.iterables.proofs.Giving.{iterator_told}
use Rattle.iterables.proofs.results.iterator_given.Goals as goal

pub returns-in-Some : goal.returns-in-Some
returns-in-Some c =
    iterator_told c.args.w.now c.args.c c.args.m c.in-Some.r c.class_of_first.result (subst (FindsOne (Gives c.args.w.now c.args.c c.args.m)) c.in-Some.is c.in_ok-r.ensures) c.class_of_first.ensures.some
    c.class_of_first.ensures.none

pub returns-in-None : goal.returns-in-None
returns-in-None c = λ d h. subst (FindsOne (Gives c.args.w.now c.args.c c.args.m)) c.in-None.is c.in_ok-r.ensures (iterator_type d) h
