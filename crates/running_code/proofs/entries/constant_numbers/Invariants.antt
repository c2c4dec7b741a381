use Rattle.std.proofs.Common.{◌≡◌, ◌++◌, map, drop}
use Rattle.java_core.specs.View.{field_plain}
use Rattle.running_code.specs.Entries.{constants_in}
use Rattle.running_code.proofs.entries.constant_numbers.Given as goal

abbrev pub invariant-loop-field : goal.invariant-loop-field
invariant-loop-field l = l.numbers ++ constants_in (map (λ x. field_plain x.now) (drop l.field-index l.fields)) ≡ constants_in (map (λ x. field_plain x.now) l.fields)
