use Rattle.std.proofs.Common.{◌++◌, ◌≡◌, drop, map}
use Rattle.java_core.specs.View.{member_plain}
use Rattle.definite_assignment.specs.Bodies as spec
use Rattle.definite_assignment.proofs.blanks.add_blanks.Given as goal

abbrev pub invariant-loop-member : goal.invariant-loop-member
invariant-loop-member l = l.out ++ spec.blanks l.w (map member_plain (drop l.member-index l.members)) ≡ l.fn.out ++ spec.blanks l.w (map member_plain l.members)
