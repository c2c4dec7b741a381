use Rattle.std.proofs.Common.{sym, ◌∙◌}
use Rattle.report_reading.proofs.Extracted.{extract_text}
use Rattle.report_reading.proofs.report_reader.read_report.Goals as goal

pub returns-clause-extracted : goal.returns-clause-extracted
returns-clause-extracted c files edits created bytes kept e are = c.read.ensures.only _ are (extract_text files edits created bytes kept ∙ sym e)
