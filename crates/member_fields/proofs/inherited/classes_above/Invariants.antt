use Rattle.std.proofs.Common.{◌≡◌, ℕ, ◌<◌, ◌⊎◌, ◌↔◌, List, Some}
use Rattle.std.specs.Prelude.{slice_get, Contains}
use Rattle.class_world.specs.declared.world.JavaType.{JavaType}
use Rattle.class_world.specs.declared.world.JavaType.TheVariants as ty
use Rattle.member_fields.proofs.inherited.classes_above.Given as goal

abbrev pub invariant-loop-t : goal.invariant-loop-t
invariant-loop-t l = (s : ℕ) → Contains l.above.items s
    ↔ (Contains l.initial.above.items s ⊎ ((k : ℕ) × (args : List JavaType) × (k < l.t-index) × (slice_get l.t-items k ≡ Some (ty.Class s args))))
