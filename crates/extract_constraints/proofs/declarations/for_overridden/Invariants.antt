use Rattle.std.proofs.Common.{drop, ◌≡◌}
use Rattle.extract_constraints.proofs.Each.{Each}
use Rattle.extract_constraints.specs.Declarations as de
use Rattle.extract_constraints.proofs.declarations.for_overridden.Given as goal

abbrev pub invariant-loop-j : goal.invariant-loop-j
invariant-loop-j l = Each l.at (λ k a. de.for_overridden k a l.t l.node l.methods (drop l.j-index l.methods) l.links ≡ de.for_overridden k a l.t l.node l.methods l.methods l.fn.links)
