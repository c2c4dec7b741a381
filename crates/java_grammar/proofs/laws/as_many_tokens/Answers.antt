use Rattle.java_grammar.proofs.Extents.{type_rises, type_spans, expr_rises, expr_spans, stmt_rises, stmt_spans}
use Rattle.java_grammar.proofs.laws.as_many_tokens.Goals as goal

pub returns : goal.returns
returns c = record {
  types = λ text ts x i j p. (type_rises text ts x i j p, type_spans text ts x i j p);
  expressions = λ text ts k e i j p. (expr_rises text ts k e i j p, expr_spans text ts k e i j p);
  statements = λ text ts w x i j p. (stmt_rises text ts w x i j p, stmt_spans text ts w x i j p);
}
