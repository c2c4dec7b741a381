use Rattle.std.proofs.Common.{drop, ◌+◌}
use Rattle.alike_order.specs.Supers.{AreKept}
use Rattle.alike_order.proofs.KeptSupers.{at_front, past_added, past_kept}
use Rattle.alike_order.proofs.supers.are_kept.Goals as goal

pub loop-t-preserved-then-is_of_added : goal.loop-t-preserved-then-is_of_added
loop-t-preserved-then-is_of_added c =
    let front = at_front c.args.after.now c.loop-t.t-index c.t-item.result c.loop-t-test.true c.t-item.is in
    past_added c.args.new.now c.args.types.now c.loop-t.rest.now (drop c.loop-t.t-index c.args.after.now) (drop (c.loop-t.t-index + 1) c.args.after.now) c.t-item.result
    (AreKept c.args.new.now c.args.types.now c.args.before.now c.args.after.now) front (c.is_of_added.ensures.0 c.if-is_of_added.true) c.loop-t.invariant

pub loop-t-preserved : goal.loop-t-preserved
loop-t-preserved c =
    let front = at_front c.args.after.now c.loop-t.t-index c.t-item.result c.loop-t-test.true c.t-item.is in
    past_kept c.args.new.now c.args.types.now c.loop-t.rest.now c.in-Some.others.now (drop c.loop-t.t-index c.args.after.now) (drop (c.loop-t.t-index + 1) c.args.after.now) c.in-Some.s.now c.t-item.result
    (AreKept c.args.new.now c.args.types.now c.args.before.now c.args.after.now) front c.in-Some.ensures.cases.0 (λ h. let never = c.is_of_added.ensures.1 h in absurd (cc (never, c.if-is_of_added.false)))
    (c.is_kept_as.ensures.0 c.if-not-is_kept_as.false) c.loop-t.invariant
