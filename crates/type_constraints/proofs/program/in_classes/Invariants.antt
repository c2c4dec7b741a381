use Rattle.std.proofs.Common.{◌≡◌, drop, map}
use Rattle.java_core.specs.View.{class_plain}
use Rattle.type_constraints.specs.Constraints as spec
use Rattle.type_constraints.proofs.Each.{Each}
use Rattle.type_constraints.proofs.program.in_classes.Given as goal

abbrev pub invariant-loop-class : goal.invariant-loop-class
invariant-loop-class l = Each l.at (λ a. spec.in_classes a (map class_plain (drop l.class-index l.classes)) l.first ≡ spec.in_classes a (map class_plain l.classes) l.fn.first)
