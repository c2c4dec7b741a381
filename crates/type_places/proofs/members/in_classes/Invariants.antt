use Rattle.std.proofs.Common.{◌≡◌, drop, map}
use Rattle.java_core.specs.View.{class_plain}
use Rattle.type_places.specs.Places as spec
use Rattle.type_places.proofs.members.in_classes.Given as goal

abbrev pub invariant-loop-class : goal.invariant-loop-class
invariant-loop-class l = spec.in_classes l.w l.at (map class_plain (drop l.class-index l.classes)) l.found ≡ spec.in_classes l.w l.at (map class_plain l.classes) l.fn.found
