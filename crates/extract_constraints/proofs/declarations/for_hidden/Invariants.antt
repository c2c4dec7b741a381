use Rattle.std.proofs.Common.{drop, ◌≡◌}
use Rattle.extract_constraints.proofs.Each.{Each}
use Rattle.extract_constraints.specs.Declarations as de
use Rattle.extract_constraints.proofs.declarations.for_hidden.Given as goal

abbrev pub invariant-loop-j : goal.invariant-loop-j
invariant-loop-j l = Each l.at (λ k a. de.for_hidden k a l.t l.node (drop l.j-index l.hidden) l.links ≡ de.for_hidden k a l.t l.node l.hidden l.fn.links)
