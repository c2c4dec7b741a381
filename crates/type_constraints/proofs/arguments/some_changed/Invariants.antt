use Rattle.std.proofs.Common.{◌≡◌, drop}
use Rattle.java_core.specs.View.{plains}
use Rattle.type_constraints.specs.Arguments as spec
use Rattle.type_constraints.proofs.Each.{Each}
use Rattle.type_constraints.proofs.arguments.some_changed.Given as goal

abbrev pub invariant-loop-x : goal.invariant-loop-x
invariant-loop-x l = Each l.at (λ a. spec.some_changed a (plains (drop l.x-index l.xs)) ≡ spec.some_changed a (plains l.xs))
