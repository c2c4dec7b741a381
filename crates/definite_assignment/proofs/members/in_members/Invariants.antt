use Rattle.std.proofs.Common.{◌≡◌, drop, map}
use Rattle.java_core.specs.View.{member_plain}
use Rattle.definite_assignment.specs.Bodies as spec
use Rattle.definite_assignment.proofs.members.in_members.Given as goal

abbrev pub invariant-loop-member : goal.invariant-loop-member
invariant-loop-member l = spec.in_members l.w l.blanks (map member_plain (drop l.member-index l.members)) l.first ≡ spec.in_members l.w l.blanks (map member_plain l.members) l.fn.first
