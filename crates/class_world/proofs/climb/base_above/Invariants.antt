use Rattle.class_world.specs.Subtypes.{Subtype}
use Rattle.class_world.specs.Climbs.{HasBase, IsClassType}
use Rattle.class_world.proofs.Heights.{height, number}
use Rattle.class_world.proofs.climb.base_above.Given as goal

abbrev pub invariant-loop-alloc : goal.invariant-loop-alloc
invariant-loop-alloc l = record { class : IsClassType l.w l.at; below : Subtype l.w l.t l.at; above : HasBase l.w l.at l.g }

abbrev pub decreases-loop-alloc : goal.decreases-loop-alloc
decreases-loop-alloc l = height l.w (number l.at)
