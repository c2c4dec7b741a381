use Rattle.std.proofs.Common.{◌≡◌, drop, map}
use Rattle.java_core.specs.View.{class_plain}
use Rattle.reachability.specs.Reached as spec
use Rattle.reachability.proofs.program.in_classes.Given as goal

abbrev pub invariant-loop-class : goal.invariant-loop-class
invariant-loop-class l = spec.in_classes (map class_plain (drop l.class-index l.classes)) l.first ≡ spec.in_classes (map class_plain l.classes) l.fn.first
