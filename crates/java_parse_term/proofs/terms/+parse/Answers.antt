use Rattle.std.proofs.Common.{◌≡◌, ap, arith, rules}
use Rattle.std.proofs.lemmas.Grind.{common_steps}
use Rattle.java_parse_term.specs.Parse.{parse}
use Rattle.java_parse_term.proofs.Turns.{deeper}
use Rattle.java_parse_term.proofs.terms.+parse.Goals as goal

pub returns-then-limit-eq0 : goal.returns-then-limit-eq0
unfolding parse
returns-then-limit-eq0 t c =
    let none : c.args.limit ≡ 0 = omega arith in
    let read = ap (λ n. parse c.args.text.now c.args.toks.now n c.args.level c.args.at) none in
    first_of (search rules, grind (arith, common_steps))

pub returns : goal.returns
unfolding parse
returns t c = rw (deeper (λ n. parse c.args.text.now c.args.toks.now n c.args.level c.args.at) c.args.limit (omega arith)) c.level.ensures
