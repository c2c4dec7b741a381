use Rattle.std.proofs.Common.{arith}
use Rattle.command_words.proofs.RuleLemmas.{equals_told, too_short}
use Rattle.command_words.proofs.rules.has_equals.Goals as goal

pub returns-in-Run-len3-up : goal.returns-in-Run-len3-up
returns-in-Run-len3-up c =
    equals_told c.args.command c.args.own.now c.word-item.result c.as_str.result.now c.eq.result (omega (arith, c.in-Run-len3-up.len_at_least)) c.word-item.is c.as_str.ensures.value c.eq.ensures c.in-Run-len3-up.is-0

pub returns-in_default : goal.returns-in_default
returns-in_default c = too_short c.args.command c.args.own.now (omega (arith, c.in_default.len_below))
