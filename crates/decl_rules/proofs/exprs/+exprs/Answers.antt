use Rattle.std.proofs.Common.{arith}
use Rattle.decl_rules.proofs.Measures.{expr_in}
use Rattle.decl_rules.proofs.exprs.+exprs.Goals as goal

pub walk_exprs-walk_expr-first-requires : goal.walk_exprs-walk_expr-first-requires
walk_exprs-walk_expr-first-requires g t c = λ ends within.
    let inside = expr_in c.args.es.now c.loop-e.e-index c.e-item.result (rw (← c.as_slice-e-items.ensures) c.loop-e-test.true) (rw (← c.as_slice-e-items.ensures) c.e-item.is) in
    (rw (← c.decreases) (omega (arith, inside)), within)
