use Rattle.java_parse_term.proofs.Answered.{type_answered, type_only}
use Rattle.java_parse_term.proofs.types.type_at.Goals as goal

pub returns-clause-found : goal.returns-clause-found
returns-clause-found c = type_answered c.args.toks.now c.args.depth c.args.at c.type_expr.result c.type_expr.ensures

pub returns-clause-only : goal.returns-clause-only
returns-clause-only c text x j p low ends = type_only c.args.toks.now c.args.depth c.args.at c.type_expr.result c.type_expr.ensures text x j p low ends
