use Rattle.std.proofs.Common.{◌≡◌, ◌+◌, ◌≤◌, ◌++◌, length, drop, map}
use Rattle.std.specs.List.{sum_by}
use Rattle.std.specs.String.{string_bytes}
use Rattle.report_text.specs.Report.{edit_lines}
use Rattle.report_text.proofs.change.push_edits_of_files.Given as goal

abbrev pub invariant-loop-file : goal.invariant-loop-file
invariant-loop-file l = record {
  lines : l.lines.items ++ edit_lines (map string_bytes (drop l.file l.files)) (drop l.file l.edits) ≡ l.fn.lines.items ++ edit_lines (map string_bytes l.files) l.edits;
  count : l.count + sum_by length (drop l.file l.edits) ≡ sum_by length l.edits;
  some : l.count ≤ length l.lines.items;
}
