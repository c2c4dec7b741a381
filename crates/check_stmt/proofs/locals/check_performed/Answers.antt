use Rattle.check_stmt.proofs.Steps.{performed_step}
use Rattle.check_stmt.proofs.locals.check_performed.Goals as goal

pub loop-e-preserved : goal.loop-e-preserved
loop-e-preserved c = λ f d.
    performed_step f c.args.place.now c.args.locals.now c.args.es.now c.loop-e.e-index c.e-item.result c.loop-e.done c.push.new.self c.in_ok-check.field-0 _
    c.loop-e-test.true c.e-item.is (c.in_ok-check.ensures f d) c.in_ok-push.ensures.ok (c.loop-e.invariant f d)
