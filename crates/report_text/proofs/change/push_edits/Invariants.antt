use Rattle.std.proofs.Common.{◌≡◌, ◌+◌, ◌≤◌, ◌++◌, length, drop}
use Rattle.std.specs.Prelude.{flat_map}
use Rattle.report_text.specs.Report.{edit_line}
use Rattle.report_text.proofs.change.push_edits.Given as goal

abbrev pub invariant-loop-edit : goal.invariant-loop-edit
invariant-loop-edit l = record {
  lines : l.lines.items ++ flat_map (edit_line l.file) (drop l.edit-index l.edits) ≡ l.fn.lines.items ++ flat_map (edit_line l.file) l.edits;
  some : length l.fn.lines.items + l.edit-index ≤ length l.lines.items;
}
