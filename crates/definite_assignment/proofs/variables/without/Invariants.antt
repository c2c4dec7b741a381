use Rattle.std.proofs.Common.{◌≡◌, ◌++◌, drop}
use Rattle.definite_assignment.specs.Variables as spec
use Rattle.definite_assignment.proofs.variables.without.Given as goal

abbrev pub invariant-loop-y : goal.invariant-loop-y
invariant-loop-y l = l.kept ++ spec.without (drop l.y-index l.xs) l.x ≡ spec.without l.xs l.x
