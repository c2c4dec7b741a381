use Rattle.operator_rules.proofs.Sizes.{one_more}
use Rattle.operator_rules.proofs.arrays.sizes.Goals as goal

pub loop-x-preserved : goal.loop-x-preserved
loop-x-preserved c =
    one_more c.loop-x.yielded c.loop-x.done c.push.new.self c.in-Some.x c.in_ok-size.field-0 c.in_ok-size.ensures c.in_ok-push.ensures.ok c.loop-x.invariant
