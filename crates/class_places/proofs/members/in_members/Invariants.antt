use Rattle.std.proofs.Common.{◌≡◌, drop, map}
use Rattle.java_core.specs.View.{member_plain}
use Rattle.class_places.specs.Places as spec
use Rattle.class_places.proofs.members.in_members.Given as goal

abbrev pub invariant-loop-member : goal.invariant-loop-member
invariant-loop-member l = spec.in_members l.class (map member_plain (drop l.member-index l.members)) l.places ≡ spec.in_members l.class (map member_plain l.members) l.fn.places
