use Rattle.std.proofs.Common.{◌≡◌, ◌++◌, drop}
use Rattle.std.specs.Prelude.{flat_map}
use Rattle.interface_text.specs.Imports as spec
use Rattle.interface_text.proofs.imports.push_lines.Given as goal

abbrev pub invariant-loop-name : goal.invariant-loop-name
invariant-loop-name l = l.out.items ++ flat_map spec.import_line (drop l.name-index l.found) ≡ l.fn.out.items ++ flat_map spec.import_line l.found
