use Rattle.std.proofs.Common.{◌≡◌, drop}
use Rattle.type_constraints.specs.Uses as spec
use Rattle.type_constraints.proofs.Each.{Each}
use Rattle.type_constraints.proofs.receivers.are_known.Given as goal

abbrev pub invariant-loop-k : goal.invariant-loop-k
invariant-loop-k l = Each l.at (λ a. spec.are_known a l.old (drop l.k-index l.new) ≡ spec.are_known a l.old l.new)
