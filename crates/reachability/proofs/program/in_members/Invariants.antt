use Rattle.std.proofs.Common.{◌≡◌, drop, map}
use Rattle.java_core.specs.View.{member_plain}
use Rattle.reachability.specs.Reached as spec
use Rattle.reachability.proofs.program.in_members.Given as goal

abbrev pub invariant-loop-member : goal.invariant-loop-member
invariant-loop-member l = spec.in_members (map member_plain (drop l.member-index l.members)) l.first ≡ spec.in_members (map member_plain l.members) l.fn.first
