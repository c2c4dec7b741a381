use Rattle.std.proofs.Common.{arith}
use Rattle.check_program.specs.Classes as spec
use Rattle.check_program.proofs.Calls.{leads_ended, leads_met, leads_step, leads_done}
use Rattle.check_program.proofs.circles.leads.Goals as goal

pub returns-in-None : goal.returns-in-None
returns-in-None c =
    leads_ended c.args.links.now c.loop.counter c.args.calls c.args.to c.loop.from (spec.leads c.args.links.now c.args.calls c.args.to c.args.from) c.loop-test.true c.in-None.is c.loop.invariant

pub returns-then-at-to : goal.returns-then-at-to
returns-then-at-to c =
    leads_met c.args.links.now c.loop.counter c.args.calls c.args.to c.in-Some.at c.loop.from (spec.leads c.args.links.now c.args.calls c.args.to c.args.from)
    c.loop-test.true c.in-Some.is c.if-at-to.true c.loop.invariant

pub loop-preserved : goal.loop-preserved
loop-preserved c =
    leads_step c.args.links.now c.loop.counter c.args.calls c.args.to c.in-Some.at c.loop.from c.linked-from.result (spec.leads c.args.links.now c.args.calls c.args.to c.args.from)
    c.in-Some.is c.if-at-to.false c.linked-from.ensures c.loop.invariant

pub returns : goal.returns
returns c =
    leads_done c.args.links.now c.loop.counter c.args.calls c.args.to c.loop.from (spec.leads c.args.links.now c.args.calls c.args.to c.args.from) (omega (arith, c.loop-test.false, c.loop.auto.counter-end)) c.loop.invariant
