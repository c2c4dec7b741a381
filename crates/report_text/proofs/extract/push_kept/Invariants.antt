use Rattle.std.proofs.Common.{◌≡◌, ◌++◌, map, drop}
use Rattle.std.specs.Prelude.{flat_map}
use Rattle.report_text.specs.Report.{kept_line, kept_parts}
use Rattle.report_text.proofs.extract.push_kept.Given as goal

abbrev pub invariant-loop-place : goal.invariant-loop-place
invariant-loop-place l = l.lines.items ++ flat_map kept_line (map kept_parts (drop l.place-index l.kept)) ≡ l.fn.lines.items ++ flat_map kept_line (map kept_parts l.kept)
