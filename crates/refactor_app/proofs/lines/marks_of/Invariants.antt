use Rattle.std.proofs.Common.{◌≡◌, length}
use Rattle.refactor_app.specs.Marked.{AreTables}
use Rattle.refactor_app.proofs.lines.marks_of.Given as goal

abbrev pub invariant-loop-text : goal.invariant-loop-text
invariant-loop-text l = record {
  tables : AreTables l.texts l.tables;
  count : length l.tables ≡ l.text-index;
}
