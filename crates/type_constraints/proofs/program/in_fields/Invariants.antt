use Rattle.std.proofs.Common.{◌≡◌, drop, map}
use Rattle.java_core.specs.View.{field_plain}
use Rattle.type_constraints.specs.Constraints as spec
use Rattle.type_constraints.proofs.Each.{Each}
use Rattle.type_constraints.proofs.program.in_fields.Given as goal

abbrev pub invariant-loop-field : goal.invariant-loop-field
invariant-loop-field l = Each l.at (λ a. spec.in_fields a (map field_plain (drop l.field-index l.fields)) l.first ≡ spec.in_fields a (map field_plain l.fields) l.fn.first)
