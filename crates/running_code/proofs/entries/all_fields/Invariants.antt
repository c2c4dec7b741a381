use Rattle.std.proofs.Common.{◌≡◌, ◌++◌, map, drop}
use Rattle.java_core.specs.View.{field_plain}
use Rattle.running_code.specs.Entries.{class_of, fields_of}
use Rattle.running_code.proofs.entries.all_fields.Given as goal

abbrev pub invariant-loop-entry : goal.invariant-loop-entry
invariant-loop-entry l = map (λ x. field_plain x.now) l.fields ++ fields_of (map class_of (drop l.entry-index l.entries)) ≡ fields_of (map class_of l.entries)
