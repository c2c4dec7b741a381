use Rattle.std.proofs.Common.{◌≡◌, ◌<◌, ℕ, Some}
use Rattle.std.specs.Prelude.{slice_get}
use Rattle.class_world.specs.declared.world.JavaType.{JavaType}
use Rattle.alike_order.specs.Supers.{IsOfClass}
use Rattle.alike_order.proofs.supers.are_object.Given as goal

abbrev pub invariant-loop-t : goal.invariant-loop-t
invariant-loop-t l = (k : ℕ) (t : JavaType) → k < l.t-index → slice_get l.types k ≡ Some t → IsOfClass t 0
