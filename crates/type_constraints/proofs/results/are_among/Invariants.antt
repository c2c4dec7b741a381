use Rattle.std.proofs.Common.{◌≡◌, drop}
use Rattle.type_constraints.specs.Uses as spec
use Rattle.type_constraints.proofs.results.are_among.Given as goal

abbrev pub invariant-loop-x : goal.invariant-loop-x
invariant-loop-x l = spec.are_among (drop l.x-index l.xs) l.ys ≡ spec.are_among l.xs l.ys
