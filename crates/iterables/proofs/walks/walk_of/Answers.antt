use Rattle.std.proofs.Common.{subst}
use Rattle.iterables.specs.declared.calls.IteratorCall.{IteratorCall}
use Rattle.iterables.specs.Told.{AreSteps, Finds, FindsOne, IsMade}
use Rattle.iterables.proofs.Calling.{usable_made, no_iterator, no_steps}
use Rattle.iterables.proofs.walks.walk_of.Goals as goal

pub returns-in_default : goal.returns-in_default
returns-in_default c = λ v h.
    let x : IteratorCall = record { method = v.iterator; iterators = h.0.of_iterators } in
    subst (FindsOne (IsMade c.args.names.now c.args.w.now c.args.c)) c.in_default.is c.in_ok-made.ensures x (usable_made c.args.names.now c.args.w.now c.args.c v h)

pub returns-then-not-is_iterator : goal.returns-then-not-is_iterator
returns-then-not-is_iterator c =
    no_iterator c.args.names.now c.args.w.now c.args.c c.in-Some.made (subst (FindsOne (IsMade c.args.names.now c.args.w.now c.args.c)) c.in-Some.is c.in_ok-made.ensures)
    (λ h. let yes = c.is_iterator.ensures.1 h in absurd (cc (yes, c.if-not-is_iterator.true)))

pub returns-in_default-2 : goal.returns-in_default-2
returns-in_default-2 c =
    no_steps c.args.names.now c.args.w.now c.args.c c.in-Some.made (subst (FindsOne (IsMade c.args.names.now c.args.w.now c.args.c)) c.in-Some.is c.in_ok-made.ensures)
    (subst (Finds (AreSteps c.args.names.now c.args.w.now c.in-Some.made.iterators)) c.in_default-2.is c.in_ok-steps.ensures)
