use Rattle.std.proofs.Common.{◌≡◌, ℕ, ◌<◌, Some}
use Rattle.std.specs.Prelude.{slice_get}
use Rattle.class_world.specs.declared.world.JavaType.{JavaType}
use Rattle.alike_lookups.specs.Classes.{IsClassIn}
use Rattle.alike_lookups.proofs.classes.first_class.Given as goal

abbrev pub invariant-loop-d : goal.invariant-loop-d
invariant-loop-d l = (j s : ℕ) (d : JavaType) → j < l.d-index → slice_get l.supers j ≡ Some d → IsClassIn l.w d s → ⊥
