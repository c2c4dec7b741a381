use Rattle.std.proofs.Common.{◌≡◌, drop}
use Rattle.java_core.specs.View.{plains}
use Rattle.type_constraints.specs.Arguments as spec
use Rattle.type_constraints.proofs.Each.{Each}
use Rattle.type_constraints.proofs.arguments.to_params.Given as goal

abbrev pub invariant-loop-i : goal.invariant-loop-i
invariant-loop-i l = Each l.at (λ a. spec.to_params a l.seen l.types l.m l.i (plains (drop l.i l.xs)) l.first ≡ spec.to_params a l.seen l.types l.m 0 (plains l.xs) l.fn.first)
