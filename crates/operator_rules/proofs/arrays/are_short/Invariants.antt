use Rattle.std.proofs.Common.{◌≡◌, drop, map}
use Rattle.java_core.specs.View.{plain}
use Rattle.operator_rules.specs.Operators as spec
use Rattle.operator_rules.proofs.arrays.are_short.Given as goal

abbrev pub invariant-loop-x : goal.invariant-loop-x
invariant-loop-x l = spec.are_short (map plain (drop l.x-index l.xs)) ≡ spec.are_short (map plain l.xs)
