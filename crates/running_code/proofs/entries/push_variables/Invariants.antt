use Rattle.std.proofs.Common.{◌≡◌, ◌++◌, map, drop}
use Rattle.java_core.specs.View.{field_plain}
use Rattle.running_code.proofs.entries.push_variables.Given as goal

abbrev pub invariant-loop-field : goal.invariant-loop-field
invariant-loop-field l = map (λ x. field_plain x.now) l.out ++ map field_plain (drop l.field-index l.field-items) ≡ map (λ x. field_plain x.now) l.fn.out ++ map field_plain l.field-items
