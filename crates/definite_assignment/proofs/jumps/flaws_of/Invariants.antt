use Rattle.std.proofs.Common.{◌≡◌, drop}
use Rattle.definite_assignment.specs.Bodies as spec
use Rattle.definite_assignment.proofs.jumps.flaws_of.Given as goal

abbrev pub invariant-loop-x : goal.invariant-loop-x
invariant-loop-x l = spec.flaws_of (drop l.x-index l.xs) l.first ≡ spec.flaws_of l.xs l.fn.first
