use Rattle.std.proofs.Common.{arith}
use Rattle.command_words.proofs.RuleLemmas.{new_is}
use Rattle.command_words.proofs.rules.new_name.Goals as goal

pub returns-in-len3-up-clause-some : goal.returns-in-len3-up-clause-some
returns-in-len3-up-clause-some c =
    new_is c.args.command c.args.own.now c.new_name-item.result c.as_bytes.result.now (omega (arith, c.in-len3-up.len_at_least)) c.new_name-item.is c.as_bytes.ensures.value c.in-ExtractInterface.is
