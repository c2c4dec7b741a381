use Rattle.std.proofs.Common.{◌∙◌, ap}
use Rattle.std.specs.List.{list_any}
use Rattle.std.specs.Str.{bytes_eq}
use Rattle.java_lexer.specs.Bytes.{keywords}
use Rattle.java_lexer.specs.Scan.{with_head}
use Rattle.java_lexer.proofs.KeywordLemmas.{any_with_head}
use Rattle.java_lexer.proofs.keyword.is_keyword.Goals as goal

pub returns : goal.returns
returns c =
    c.is_among.ensures ∙ ap (λ b. list_any (bytes_eq c.args.word.now) (with_head b keywords)) c.head.ensures ∙ any_with_head c.args.word.now keywords
