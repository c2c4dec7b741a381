use Rattle.std.proofs.Common.{◌≡◌, ◌++◌, Bool, drop, map}
use Rattle.class_world.specs.declared.world.JavaType.{JavaType}
use Rattle.java_core.specs.View.{member_plain}
use Rattle.type_facts.specs.Facts.{AreFacts, Facts}
use Rattle.unchecked_ops.specs.Casting.{AreCasts}
use Rattle.unchecked_ops.specs.Operations as spec
use Rattle.unchecked_ops.proofs.operations.member_ops.Given as goal

abbrev pub invariant-loop-member : goal.invariant-loop-member
invariant-loop-member l = (f : Facts) → AreFacts l.q f → (u : JavaType → JavaType → Bool) → AreCasts l.q.world.now u
    → l.out ++ spec.member_ops f u l.own l.above (map member_plain (drop l.member-index l.members)) ≡ l.fn.out ++ spec.member_ops f u l.own l.above (map member_plain l.members)
