use Rattle.std.proofs.Common.{◌≡◌, ◌+◌, ◌++◌, ℕ, map, drop, take, length}
use Rattle.check_program.specs.Classes as spec
use Rattle.check_program.proofs.circles.leads.Given as goal

abbrev pub invariant-loop : goal.invariant-loop
invariant-loop l = (left : ℕ) → l.counter + left ≡ l.calls → spec.leads l.links left l.to l.from ≡ spec.leads l.links l.calls l.to l.initial.from
