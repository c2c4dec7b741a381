use Rattle.std.proofs.Common.{◌++◌, ◌≡◌, drop, map}
use Rattle.java_core.specs.View.{field_plain}
use Rattle.definite_assignment.specs.Bodies as spec
use Rattle.definite_assignment.proofs.blanks.add_blank_vars.Given as goal

abbrev pub invariant-loop-x : goal.invariant-loop-x
invariant-loop-x l = l.out ++ spec.blank_vars l.w (map field_plain (drop l.x-index l.xs)) ≡ l.fn.out ++ spec.blank_vars l.w (map field_plain l.xs)
