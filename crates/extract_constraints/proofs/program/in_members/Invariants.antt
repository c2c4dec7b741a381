use Rattle.std.proofs.Common.{◌≡◌, drop, map}
use Rattle.java_core.specs.View.{member_plain}
use Rattle.extract_constraints.specs.Links as li
use Rattle.extract_constraints.proofs.Each.{Each}
use Rattle.extract_constraints.proofs.program.in_members.Given as goal

abbrev pub invariant-loop-member : goal.invariant-loop-member
invariant-loop-member l = Each l.at (λ k a. li.in_members k a (map member_plain (drop l.member-index l.members)) l.links ≡ li.in_members k a (map member_plain l.members) l.fn.links)
