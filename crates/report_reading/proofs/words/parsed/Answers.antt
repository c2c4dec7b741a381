use Rattle.std.proofs.Common.{◌∙◌, sym, subst}
use Rattle.std.specs.Str.{IsUtf8}
use Rattle.std.proofs.lemmas.Fmt.{IsAscii-decimal, parse-decimal}
use Rattle.std.proofs.lemmas.Str.{IsUtf8-from_ascii}
use Rattle.report_reading.proofs.words.parsed.Goals as goal

pub returns-in_default : goal.returns-in_default
returns-in_default c n lt e = absurd (c.in_default.ensures.cases.0 (subst IsUtf8 (sym e) (IsUtf8-from_ascii _ (IsAscii-decimal n lt))))

pub returns-in-Ok-parse : goal.returns-in-Ok-parse
returns-in-Ok-parse c n lt e = cc (parse-decimal 64 n c.in-Ok.text.now c.parse.result lt lt (c.in-Ok.ensures.cases.0 ∙ e) c.parse.ensures.value.0, c.in-Ok-parse.is)

pub returns-in-Err : goal.returns-in-Err
returns-in-Err c n lt e = cc (parse-decimal 64 n c.in-Ok.text.now c.parse.result lt lt (c.in-Ok.ensures.cases.0 ∙ e) c.parse.ensures.value.0, c.in-Err.is)
