use Rattle.std.proofs.Common.{◌≡◌, drop, map}
use Rattle.java_core.specs.View.{class_plain}
use Rattle.extract_constraints.specs.Links as li
use Rattle.extract_constraints.proofs.Each.{Each}
use Rattle.extract_constraints.proofs.program.in_classes.Given as goal

abbrev pub invariant-loop-class : goal.invariant-loop-class
invariant-loop-class l = Each l.at (λ k a. li.in_classes k a (map class_plain (drop l.class-index l.classes)) l.links ≡ li.in_classes k a (map class_plain l.classes) l.fn.links)
