use Rattle.std.proofs.Common.{◌≡◌, ap, arith}
use Rattle.java_parse_expr.specs.Parse.{under}
use Rattle.java_parse_expr.proofs.Turns.{under_inner, under_level}
use Rattle.java_parse_expr.proofs.stmt.+under.Goals as goal

pub returns-then-limit-eq0 : goal.returns-then-limit-eq0
unfolding under
returns-then-limit-eq0 t c = let none : c.args.limit ≡ 0 = omega arith in ap (λ n. under c.args.text.now c.args.toks.now n c.args.inner c.args.in_block c.args.at) none

pub returns-then-inner : goal.returns-then-inner
returns-then-inner t c =
    rw (under_inner c.args.text.now c.args.toks.now c.args.limit c.args.inner c.args.in_block c.args.at c.if-limit-eq0.false c.if-inner.true) c.under.ensures

pub returns : goal.returns
returns t c =
    rw (under_level c.args.text.now c.args.toks.now c.args.limit c.args.inner c.args.in_block c.args.at c.if-limit-eq0.false c.if-inner.false) c.level.ensures
