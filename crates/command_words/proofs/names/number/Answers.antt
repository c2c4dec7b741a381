use Rattle.std.proofs.Common.{◌≡◌, rules, arith}
use Rattle.command_words.specs.Scan.{BeginsNumber}
use Rattle.command_words.proofs.Numbers.{zero_is, written, no_number, parsed}
use Rattle.command_words.proofs.names.number.Goals as goal

pub returns-then-eq-clause-some : goal.returns-then-eq-clause-some
returns-then-eq-clause-some c = zero_is c.args.word.now (search rules)

pub returns-then-not-begins_number-clause-none : goal.returns-then-not-begins_number-clause-none
returns-then-not-begins_number-clause-none c n is = no_number c.args.word.now n (search rules) (search rules) is

pub returns-then-n-lt10000000000-clause-some : goal.returns-then-n-lt10000000000-clause-some
returns-then-n-lt10000000000-clause-some c =
    let b : BeginsNumber c.args.word.now = search rules in
    written c.args.word.now c.in-Ok.n c.parse.result b c.parse.ensures.value.0 c.in-Ok.is c.if-n-lt10000000000.true

pub returns-else-n-lt10000000000-clause-none : goal.returns-else-n-lt10000000000-clause-none
returns-else-n-lt10000000000-clause-none c n is =
    let same : c.in-Ok.n ≡ n = cc (c.in-Ok.is, parsed c.args.word.now n c.parse.result is c.parse.ensures.value.0) in
    absurd (omega (arith, is.1, c.if-n-lt10000000000.false))

pub returns-in-Err-clause-none : goal.returns-in-Err-clause-none
returns-in-Err-clause-none c n is = cc (c.in-Err.is, parsed c.args.word.now n c.parse.result is c.parse.ensures.value.0)
