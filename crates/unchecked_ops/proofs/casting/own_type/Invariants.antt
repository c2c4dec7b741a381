use Rattle.std.proofs.Common.{◌≡◌}
use Rattle.class_world.specs.Types.{variables}
use Rattle.unchecked_ops.proofs.casting.own_type.Given as goal

abbrev pub invariant-loop-k : goal.invariant-loop-k
invariant-loop-k l = l.vars ≡ variables 0 l.k
