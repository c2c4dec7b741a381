use Rattle.java_parse_term.proofs.Answered.{one_expr}
use Rattle.java_parse_term.proofs.laws.one_expression.Goals as goal

pub returns : goal.returns
returns c = one_expr
