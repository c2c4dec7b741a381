use Rattle.std.proofs.Common.{◌≡◌}
use Rattle.extract_constraints.specs.Flows as fl
use Rattle.extract_constraints.proofs.Each.{Each}
use Rattle.extract_constraints.proofs.flows.equal_below.Given as goal

abbrev pub invariant-loop-class : goal.invariant-loop-class
invariant-loop-class l = Each l.at (λ k a. l.links ≡ fl.equal_below k a l.s l.t l.class l.node l.fn.links)
