use Rattle.std.proofs.Common.{◌≡◌, map}
use Rattle.java_core.specs.View.{plain}
use Rattle.operator_rules.specs.Operators as spec
use Rattle.operator_rules.proofs.arrays.sizes.Given as goal

abbrev pub invariant-loop-x : goal.invariant-loop-x
invariant-loop-x l = map plain l.done ≡ spec.sizes (map plain l.yielded)
