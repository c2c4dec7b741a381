use Rattle.std.proofs.Common.{◌∙◌}
use Rattle.java_lexer.specs.Bytes.{keywords}
use Rattle.command_words.proofs.Lists.{any_turned}
use Rattle.command_words.proofs.names.is_keyword.Goals as goal

pub returns : goal.returns
returns c = c.contains.ensures.value ∙ any_turned c.args.word.now keywords
