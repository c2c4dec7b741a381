use Rattle.std.proofs.Common.{◌≡◌, ◌+◌, ◌++◌, ℕ, map, drop, take, length}
use Rattle.check_program.specs.Classes as spec
use Rattle.check_program.proofs.circles.first_circle.Given as goal

abbrev pub invariant-loop-link : goal.invariant-loop-link
invariant-loop-link l = spec.circular l.links (drop l.link-index l.rest) ≡ spec.circular l.links l.rest
