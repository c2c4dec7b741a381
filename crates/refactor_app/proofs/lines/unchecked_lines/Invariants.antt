use Rattle.std.proofs.Common.{◌≡◌, ◌++◌, map, drop}
use Rattle.std.specs.Prelude.{flat_map}
use Rattle.std.specs.String.{string_bytes}
use Rattle.refactor_app.specs.Words.{Files, inputs}
use Rattle.refactor_app.specs.Checking.{unchecked_line}
use Rattle.refactor_app.proofs.lines.unchecked_lines.Given as goal

abbrev pub invariant-loop-operation : goal.invariant-loop-operation
invariant-loop-operation l =
    (fs : Files) → inputs fs ≡ map string_bytes l.names
    → string_bytes l.lines ++ flat_map (unchecked_line fs l.texts) (drop l.operation-index l.operations) ≡ flat_map (unchecked_line fs l.texts) l.operations
