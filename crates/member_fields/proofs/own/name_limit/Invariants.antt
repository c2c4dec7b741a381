use Rattle.std.proofs.Common.{◌≡◌, ℕ, ◌<◌, Some}
use Rattle.std.specs.Prelude.{slice_get}
use Rattle.class_world.specs.declared.world.FieldInfo.{FieldInfo}
use Rattle.member_fields.proofs.own.name_limit.Given as goal

abbrev pub invariant-loop-field : goal.invariant-loop-field
invariant-loop-field l = (f : ℕ) (info : FieldInfo) → f < l.field-index → slice_get l.field-items f ≡ Some info → info.name.0 < l.limit
