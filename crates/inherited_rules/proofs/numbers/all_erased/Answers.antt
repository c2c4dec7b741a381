use Rattle.class_world.specs.Types.{erased}
use Rattle.class_world.proofs.Substs.{next_put}
use Rattle.inherited_rules.proofs.numbers.all_erased.Goals as goal

pub loop-t-preserved : goal.loop-t-preserved
loop-t-preserved c =
    next_put erased c.args.types.now c.loop-t.erasures c.push.new.self c.loop-t.t-index c.t-item.result c.in_ok-erase.field-0 c.loop-t.invariant c.loop-t-test.true c.t-item.is c.in_ok-erase.ensures
    c.in_ok-push.ensures.ok
