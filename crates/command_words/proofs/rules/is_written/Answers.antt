use Rattle.command_words.proofs.RuleLemmas.{written_is}
use Rattle.command_words.proofs.rules.is_written.Goals as goal

pub returns-in-Some : goal.returns-in-Some
returns-in-Some c = written_is c.args.out.now c.args.name.now c.in-Some.rest.now c.args.files.now c.contains.result c.in-Some.ensures.some c.contains.ensures
