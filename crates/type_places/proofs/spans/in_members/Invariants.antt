use Rattle.std.proofs.Common.{◌≡◌, drop, map}
use Rattle.java_core.specs.View.{member_plain}
use Rattle.type_places.specs.Heads as spec
use Rattle.type_places.proofs.spans.in_members.Given as goal

abbrev pub invariant-loop-member : goal.invariant-loop-member
invariant-loop-member l = spec.in_members l.change l.index (map member_plain (drop l.member-index l.members)) l.heads ≡ spec.in_members l.change l.index (map member_plain l.members) l.fn.heads
