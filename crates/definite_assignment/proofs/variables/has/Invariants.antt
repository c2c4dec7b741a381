use Rattle.std.proofs.Common.{◌≡◌, drop}
use Rattle.definite_assignment.specs.Variables as spec
use Rattle.definite_assignment.proofs.variables.has.Given as goal

abbrev pub invariant-loop-y : goal.invariant-loop-y
invariant-loop-y l = spec.has (drop l.y-index l.xs) l.x ≡ spec.has l.xs l.x
