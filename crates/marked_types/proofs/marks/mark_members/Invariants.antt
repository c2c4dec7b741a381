use Rattle.std.proofs.Common.{◌≡◌, drop, map}
use Rattle.java_core.specs.View.{member_plain}
use Rattle.marked_types.specs.Table as spec
use Rattle.marked_types.proofs.marks.mark_members.Given as goal

abbrev pub invariant-loop-member : goal.invariant-loop-member
invariant-loop-member l = spec.mark_members l.class l.w (map member_plain (drop l.member-index l.members)) l.marks ≡ spec.mark_members l.class l.w (map member_plain l.members) l.fn.marks
