use Rattle.class_world.proofs.Substs.{next_variable}
use Rattle.unchecked_ops.proofs.casting.own_type.Goals as goal

pub loop-k-preserved : goal.loop-k-preserved
loop-k-preserved c = next_variable c.loop-k.k c.loop-k.vars c.push.new.self c.loop-k.invariant c.in_ok-push.ensures.ok
