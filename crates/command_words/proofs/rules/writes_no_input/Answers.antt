use Rattle.command_words.specs.Asked.{parts_in}
use Rattle.command_words.proofs.RuleLemmas.{writes_told, writes_some}
use Rattle.command_words.proofs.rules.writes_no_input.Goals as goal

pub returns-then-not-none_is_written : goal.returns-then-not-none_is_written
returns-then-not-none_is_written c = writes_some c.args.out.now c.in_ok-files.files (parts_in c.args.words.now) c.none_is_written.result c.in_ok-files.ensures c.none_is_written.ensures c.if-not-none_is_written.true

pub returns : goal.returns
returns c = writes_told c.args.out.now c.in_ok-files.files (parts_in c.args.words.now) c.none_is_written.result c.none_is_written-spared.result c.in_ok-files.ensures c.none_is_written.ensures c.none_is_written-spared.ensures c.if-not-none_is_written.false
