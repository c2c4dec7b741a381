use Rattle.std.proofs.Common.{rules}
use Rattle.command_words.specs.Scan.{IsSpelled}
use Rattle.command_words.proofs.Bytes.{identifier_is, no_identifier}
use Rattle.command_words.proofs.names.is_identifier.Goals as goal

pub returns-then-is_word : goal.returns-then-is_word
returns-then-is_word c =
    let spelled : IsSpelled c.args.word.now = search rules in
    identifier_is c.args.word.now c.is_keyword.result spelled c.is_keyword.ensures

pub returns-else-is_word : goal.returns-else-is_word
returns-else-is_word c =
    let not_spelled : IsSpelled c.args.word.now → ⊥ = search rules in
    no_identifier c.args.word.now c.is_word.result c.if-is_word.false not_spelled
