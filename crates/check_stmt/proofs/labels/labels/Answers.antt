use Rattle.check_stmt.proofs.Steps.{labels_step}
use Rattle.check_stmt.proofs.labels.labels.Goals as goal

pub loop-e-preserved : goal.loop-e-preserved
loop-e-preserved c =
    labels_step c.args.es.now c.loop-e.e-index c.e-item.result c.loop-e.done c.push.new.self c.in_ok-some_label.field-0 _
    c.loop-e-test.true c.e-item.is c.in_ok-some_label.ensures c.in_ok-push.ensures.ok c.loop-e.invariant
