use Rattle.std.proofs.Common.{◌≡◌}
use Rattle.class_world.specs.Types.{variables}
use Rattle.type_constraints.proofs.groups.own_variables.Given as goal

abbrev pub invariant-loop-k : goal.invariant-loop-k
invariant-loop-k l = l.vs ≡ variables 0 l.k
