use Rattle.std.proofs.Common.{◌≡◌, drop, map}
use Rattle.java_core.specs.View.{field_plain}
use Rattle.extract_constraints.specs.Links as li
use Rattle.extract_constraints.proofs.Each.{Each}
use Rattle.extract_constraints.proofs.program.in_fields.Given as goal

abbrev pub invariant-loop-field : goal.invariant-loop-field
invariant-loop-field l = Each l.at (λ k a. li.in_fields k a (map field_plain (drop l.field-index l.fields)) l.links ≡ li.in_fields k a (map field_plain l.fields) l.fn.links)
