use Rattle.std.proofs.Common.{◌≡◌, drop}
use Rattle.type_constraints.specs.Declarations as spec
use Rattle.type_constraints.proofs.Each.{Each}
use Rattle.type_constraints.proofs.declarations.gives_for_overridden.Given as goal

abbrev pub invariant-loop-k : goal.invariant-loop-k
invariant-loop-k l = Each l.at (λ a. spec.gives_for_overridden a l.t l.m l.info (drop l.k-index l.methods) ≡ spec.gives_for_overridden a l.t l.m l.info l.methods)
