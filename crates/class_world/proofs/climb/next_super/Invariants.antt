use Rattle.std.proofs.Common.{◌≡◌, ℕ, ◌<◌, Some}
use Rattle.std.specs.Prelude.{slice_get}
use Rattle.class_world.specs.declared.world.JavaType.{JavaType}
use Rattle.class_world.proofs.Ways.{LeadsNowhere}
use Rattle.class_world.proofs.climb.next_super.Given as goal

abbrev pub invariant-loop-d : goal.invariant-loop-d
invariant-loop-d l = (k : ℕ) (d : JavaType) → k < l.d-index → slice_get l.d-items k ≡ Some d → LeadsNowhere l.w l.c l.raw d l.g
