use Rattle.std.proofs.Common.{◌≡◌, ◌*◌, ◌-◌, Some, length}
use Rattle.std.specs.Prelude.{slice_get}
use Rattle.class_world.specs.declared.world.TypeInfo.{TypeInfo}
use Rattle.class_world.specs.Types.{with_own}
use Rattle.class_world.specs.Climbs.{IsClimb}
use Rattle.class_world.proofs.below_two.is_below_two.Given as goal

abbrev pub invariant-loop-next : goal.invariant-loop-next
invariant-loop-next l = (info : TypeInfo) → slice_get l.w.types l.c ≡ Some info → IsClimb l.w info.params (with_own l.c info.params) l.found.items l.places l.next

abbrev pub decreases-loop-next : goal.decreases-loop-next
decreases-loop-next l = 2 * length l.w.types - l.next
