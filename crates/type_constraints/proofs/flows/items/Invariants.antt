use Rattle.std.proofs.Common.{◌≡◌, drop}
use Rattle.java_core.specs.View.{plains}
use Rattle.type_constraints.specs.Changed as spec
use Rattle.type_constraints.proofs.Each.{Each}
use Rattle.type_constraints.proofs.flows.items.Given as goal

abbrev pub invariant-loop-x : goal.invariant-loop-x
invariant-loop-x l = Each l.at (λ a. spec.items a l.t (plains (drop l.x-index l.xs)) l.first ≡ spec.items a l.t (plains l.xs) l.fn.first)
