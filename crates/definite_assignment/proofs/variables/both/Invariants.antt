use Rattle.std.proofs.Common.{◌≡◌, ◌++◌, drop, filter}
use Rattle.definite_assignment.specs.Variables as spec
use Rattle.definite_assignment.proofs.variables.both.Given as goal

abbrev pub invariant-loop-x : goal.invariant-loop-x
invariant-loop-x l = l.kept ++ filter (spec.has l.ys) (drop l.x-index l.xs) ≡ spec.both l.xs l.ys
