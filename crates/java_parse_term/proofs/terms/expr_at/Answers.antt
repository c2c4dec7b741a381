use Rattle.java_parse_term.proofs.Answered.{expr_answered, expr_only}
use Rattle.java_parse_term.proofs.terms.expr_at.Goals as goal

pub returns-clause-found : goal.returns-clause-found
returns-clause-found c = expr_answered c.args.text.now c.args.toks.now c.args.level c.args.depth c.args.at c.level.result c.requires.least c.level.ensures

pub returns-clause-only : goal.returns-clause-only
returns-clause-only c e j p low ends = expr_only c.args.text.now c.args.toks.now c.args.level c.args.depth c.args.at c.level.result c.requires.least c.requires.most c.level.ensures e j p low ends
