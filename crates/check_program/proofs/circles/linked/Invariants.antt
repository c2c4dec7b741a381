use Rattle.std.proofs.Common.{◌≡◌, ◌+◌, ◌++◌, ℕ, map, drop, take, length}
use Rattle.check_program.specs.Classes as spec
use Rattle.check_program.proofs.circles.linked.Given as goal

abbrev pub invariant-loop-link : goal.invariant-loop-link
invariant-loop-link l = spec.linked (drop l.link-index l.links) l.from ≡ spec.linked l.links l.from
