use Rattle.std.proofs.Common.{◌≡◌, drop}
use Rattle.type_constraints.specs.Uses as spec
use Rattle.type_constraints.proofs.Each.{Each}
use Rattle.type_constraints.proofs.receivers.found_among.Given as goal

abbrev pub invariant-loop-k : goal.invariant-loop-k
invariant-loop-k l = Each l.at (λ a. spec.found_among a l.m (drop l.k-index l.methods) ≡ spec.found_among a l.m l.methods)
