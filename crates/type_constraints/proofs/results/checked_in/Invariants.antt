use Rattle.std.proofs.Common.{◌≡◌, ◌++◌, drop}
use Rattle.thrown_exceptions.specs.Thrown.{checked_in}
use Rattle.type_constraints.proofs.Each.{Each}
use Rattle.type_constraints.proofs.results.checked_in.Given as goal

abbrev pub invariant-loop-t : goal.invariant-loop-t
invariant-loop-t l = Each l.at (λ a. l.out ++ checked_in a.facts.sub (drop l.t-index l.types) ≡ checked_in a.facts.sub l.types)
