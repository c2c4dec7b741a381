use Rattle.std.proofs.Common.{subst}
use Rattle.command_words.specs.Names.{IsNumber}
use Rattle.command_words.proofs.Numbers.{zero_alone}
use Rattle.command_words.proofs.names.place_number.Goals as goal

pub returns-then-n-eq0-clause-none : goal.returns-then-n-eq0-clause-none
returns-then-n-eq0-clause-none c n is less = zero_alone c.args.word.now n (subst (IsNumber c.args.word.now) c.if-n-eq0.true c.in_ok-n.ensures.some) is less
