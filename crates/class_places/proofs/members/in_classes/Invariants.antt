use Rattle.std.proofs.Common.{◌≡◌, drop, map}
use Rattle.java_core.specs.View.{class_plain}
use Rattle.class_places.specs.Places as spec
use Rattle.class_places.proofs.members.in_classes.Given as goal

abbrev pub invariant-loop-declared : goal.invariant-loop-declared
invariant-loop-declared l = spec.in_classes l.class (map class_plain (drop l.declared-index l.classes)) l.places ≡ spec.in_classes l.class (map class_plain l.classes) l.fn.places
