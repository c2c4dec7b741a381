use Rattle.std.proofs.Common.{arith}
use Rattle.java_grammar.proofs.Extents.{type_rises, expr_rises, stmt_rises}
use Rattle.java_grammar.proofs.Carrying.{type_moves, expr_moves, stmt_moves, sort_behind}
use Rattle.java_grammar.proofs.laws.spelled_elsewhere.Goals as goal

pub returns : goal.returns
returns c = record {
  types = λ g text ts other us x i j at same p.
      let r = type_rises text ts x i j p in
      type_moves g text ts other us i j at same x i j at _ (omega arith) (omega arith) (omega arith) (omega arith) p;
  expressions = λ g text ts other us k e i j at same p.
      let r = expr_rises text ts k e i j p in
      expr_moves g text ts other us i j at same k e i j at _ (omega arith) (omega arith) (omega arith) (omega arith) p;
  statements = λ g text ts other us w x i j at same behind p.
      let r = stmt_rises text ts w x i j p in
      let wide = sort_behind g text ts other us i j at same (omega arith) behind in
      stmt_moves g text ts other us i j at same wide w x i j at _ (omega arith) (omega arith) (omega arith) (omega arith) p;
}
