use Rattle.std.proofs.Common.{◌≡◌, Bool, drop, map}
use Rattle.class_world.specs.declared.world.JavaType.{JavaType}
use Rattle.java_core.specs.View.{member_plain}
use Rattle.thrown_exceptions.specs.Thrown as spec
use Rattle.thrown_exceptions.specs.Thrown.{IsOrder}
use Rattle.thrown_exceptions.proofs.members.in_members.Given as goal

abbrev pub invariant-loop-member : goal.invariant-loop-member
invariant-loop-member l = (below : JavaType → JavaType → Bool) → IsOrder l.w below → spec.in_members l.w below (map member_plain (drop l.member-index l.members)) l.first ≡ spec.in_members l.w below (map member_plain l.members) l.initial.first
