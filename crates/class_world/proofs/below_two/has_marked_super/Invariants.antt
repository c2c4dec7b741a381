use Rattle.std.proofs.Common.{◌≡◌, ℕ, ◌<◌, true, List, Some}
use Rattle.std.specs.Prelude.{slice_get}
use Rattle.class_world.specs.declared.world.JavaType.{JavaType}
use Rattle.class_world.specs.declared.world.JavaType.TheVariants as ty
use Rattle.class_world.proofs.below_two.has_marked_super.Given as goal

abbrev pub invariant-loop-d : goal.invariant-loop-d
invariant-loop-d l = (k g : ℕ) (args : List JavaType) → k < l.d-index → slice_get l.d-items k ≡ Some (ty.Class g args) → slice_get l.marks g ≡ Some true → ⊥
