use Rattle.class_world.proofs.Substs.{next_variable}
use Rattle.type_constraints.proofs.groups.own_variables.Goals as goal

pub loop-k-preserved : goal.loop-k-preserved
loop-k-preserved c = next_variable c.loop-k.k c.loop-k.vs c.push.new.self c.loop-k.invariant c.in_ok-push.ensures.ok
