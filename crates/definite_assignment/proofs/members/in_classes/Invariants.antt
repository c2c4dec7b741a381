use Rattle.std.proofs.Common.{◌≡◌, drop, map}
use Rattle.java_core.specs.View.{class_plain}
use Rattle.definite_assignment.specs.Bodies as spec
use Rattle.definite_assignment.proofs.members.in_classes.Given as goal

abbrev pub invariant-loop-class : goal.invariant-loop-class
invariant-loop-class l = spec.in_classes l.w (map class_plain (drop l.class-index l.classes)) l.first ≡ spec.in_classes l.w (map class_plain l.classes) l.fn.first
