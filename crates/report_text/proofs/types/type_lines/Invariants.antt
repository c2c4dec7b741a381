use Rattle.std.proofs.Common.{◌≡◌, ◌++◌, map, drop}
use Rattle.std.specs.Prelude.{flat_map}
use Rattle.std.specs.String.{string_bytes}
use Rattle.report_text.specs.Report.{type_line}
use Rattle.report_text.proofs.types.type_lines.Given as goal

abbrev pub invariant-loop-name : goal.invariant-loop-name
invariant-loop-name l = string_bytes l.lines ++ flat_map type_line (map string_bytes (drop l.name-index l.names)) ≡ flat_map type_line (map string_bytes l.names)
