use Rattle.std.proofs.Common.{◌≡◌, drop}
use Rattle.type_constraints.specs.Uses as spec
use Rattle.type_constraints.proofs.Each.{Each}
use Rattle.type_constraints.proofs.receivers.is_known.Given as goal

abbrev pub invariant-loop-j : goal.invariant-loop-j
invariant-loop-j l = Each l.at (λ a. spec.is_known a (drop l.j-index l.old) l.k ≡ spec.is_known a l.old l.k)
