use Rattle.std.proofs.Common.{◌≡◌, drop, map}
use Rattle.java_core.specs.View.{field_plain}
use Rattle.definite_assignment.specs.Bodies as spec
use Rattle.definite_assignment.proofs.members.in_fields.Given as goal

abbrev pub invariant-loop-x : goal.invariant-loop-x
invariant-loop-x l = spec.in_fields l.w l.blanks (map field_plain (drop l.x-index l.xs)) l.first ≡ spec.in_fields l.w l.blanks (map field_plain l.xs) l.fn.first
