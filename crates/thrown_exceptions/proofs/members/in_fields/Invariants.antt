use Rattle.std.proofs.Common.{◌≡◌, Bool, drop, map}
use Rattle.class_world.specs.declared.world.JavaType.{JavaType}
use Rattle.java_core.specs.View.{field_plain}
use Rattle.thrown_exceptions.specs.Thrown as spec
use Rattle.thrown_exceptions.specs.Thrown.{IsOrder}
use Rattle.thrown_exceptions.proofs.members.in_fields.Given as goal

abbrev pub invariant-loop-field : goal.invariant-loop-field
invariant-loop-field l = (below : JavaType → JavaType → Bool) → IsOrder l.w below → spec.in_fields l.w below (map field_plain (drop l.field-index l.fields)) l.first ≡ spec.in_fields l.w below (map field_plain l.fields) l.initial.first
