use Rattle.std.proofs.Common.{◌≡◌, ap, arith}
use Rattle.java_parse_term.specs.Types.{read_type}
use Rattle.java_parse_term.proofs.Turns.{deeper}
use Rattle.java_parse_term.proofs.types.+read_type.Goals as goal

pub returns-then-limit-eq0 : goal.returns-then-limit-eq0
unfolding read_type
returns-then-limit-eq0 t c = let none : c.args.limit ≡ 0 = omega arith in ap (λ n. read_type c.args.toks.now n c.args.at) none

pub returns : goal.returns
unfolding read_type
returns t c = rw (deeper (λ n. read_type c.args.toks.now n c.args.at) c.args.limit (omega arith)) c.type_expr.ensures
