use Rattle.std.proofs.Common.{◌≡◌, drop}
use Rattle.definite_assignment.specs.Variables as spec
use Rattle.definite_assignment.proofs.variables.unite.Given as goal

abbrev pub invariant-loop-y : goal.invariant-loop-y
invariant-loop-y l = spec.either l.xs (drop l.y-index l.ys) ≡ spec.either l.fn.xs l.ys
