use Rattle.std.proofs.Common.{sym, ◌∙◌}
use Rattle.report_reading.proofs.Fields.{text_is_utf8}
use Rattle.report_reading.proofs.words.text_of.Goals as goal

pub returns-in-Err : goal.returns-in-Err
returns-in-Err c = absurd (c.in-Err.ensures.cases.0 (text_is_utf8 c.args.word.now (sym c.are_word_bytes.ensures ∙ c.if-not-are_word_bytes.false)))
