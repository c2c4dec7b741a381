use Rattle.std.proofs.Common.{◌≡◌, ◌++◌, length, map}
use Rattle.report_reading.specs.Lines.{parts, AreLines, lines_text}
use Rattle.report_reading.proofs.report_reader.lines_of.Given as goal

abbrev pub invariant-loop-rest : goal.invariant-loop-rest
invariant-loop-rest l = record {
  are : AreLines (map parts l.lines);
  text : lines_text (map parts l.lines) ++ l.rest ≡ l.text;
}

abbrev pub decreases-loop-rest : goal.decreases-loop-rest
decreases-loop-rest l = length l.rest
