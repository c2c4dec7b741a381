use Rattle.std.proofs.Common.{◌≡◌, drop, map}
use Rattle.java_core.specs.View.{class_plain}
use Rattle.type_places.specs.Heads as spec
use Rattle.type_places.proofs.spans.in_classes.Given as goal

abbrev pub invariant-loop-class : goal.invariant-loop-class
invariant-loop-class l = spec.in_classes l.change l.index (map class_plain (drop l.class-index l.classes)) l.heads ≡ spec.in_classes l.change l.index (map class_plain l.classes) l.fn.heads
