use Rattle.std.proofs.Common.{◌≡◌, drop, map}
use Rattle.java_core.specs.View.{member_plain}
use Rattle.type_constraints.specs.Constraints as spec
use Rattle.type_constraints.proofs.Each.{Each}
use Rattle.type_constraints.proofs.program.in_members.Given as goal

abbrev pub invariant-loop-member : goal.invariant-loop-member
invariant-loop-member l = Each l.at (λ a. spec.in_members a (map member_plain (drop l.member-index l.members)) l.first ≡ spec.in_members a (map member_plain l.members) l.fn.first)
