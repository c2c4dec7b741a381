use Rattle.std.proofs.Common.{subst, sym}
use Rattle.line_tables.specs.Marks.{AreMarks}
use Rattle.refactor_app.proofs.lines.listed_name.Goals as goal

pub place_name-requires-clause-marks : goal.place_name-requires-clause-marks
place_name-requires-clause-marks c = λ x at. subst (AreMarks x) (sym c.marks_in-marks.ensures) (c.requires.tables c.in-Some.place.file x at)
