use Rattle.std.proofs.Common.{◌≡◌, ◌*◌, length}
use Rattle.edit_writer.specs.Places.{place_at}
use Rattle.line_tables.specs.declared.table.TheConstants.{APART}
use Rattle.line_tables.specs.Marks.{AreMarks}
use Rattle.line_tables.proofs.table.line_table.Given as goal

abbrev pub invariant-loop-number : goal.invariant-loop-number
invariant-loop-number l = record {
  at : l.at ≡ place_at l.text (APART * l.number);
  marks : AreMarks l.text l.marks;
  count : length l.marks ≡ l.number;
}
