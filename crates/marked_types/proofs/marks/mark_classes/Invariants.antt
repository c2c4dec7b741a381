use Rattle.std.proofs.Common.{◌≡◌, drop, map}
use Rattle.java_core.specs.View.{class_plain}
use Rattle.marked_types.specs.Table as spec
use Rattle.marked_types.proofs.marks.mark_classes.Given as goal

abbrev pub invariant-loop-declared : goal.invariant-loop-declared
invariant-loop-declared l = spec.mark_classes l.class l.w (map class_plain (drop l.declared-index l.classes)) l.marks ≡ spec.mark_classes l.class l.w (map class_plain l.classes) l.fn.marks
