use Rattle.std.proofs.Common.{◌≡◌}
use Rattle.class_world.specs.Types.{variables}
use Rattle.seen_methods.proofs.seen.own_type.Given as goal

abbrev pub invariant-loop-k : goal.invariant-loop-k
invariant-loop-k l = l.xs ≡ variables 0 l.k
