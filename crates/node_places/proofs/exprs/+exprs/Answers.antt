use Rattle.std.proofs.Common.{refl, arith}
use Rattle.java_tree.specs.View.{plain, plains}
use Rattle.tree_numbers.specs.Sizes as size
use Rattle.node_places.specs.Seek as seek
use Rattle.node_places.proofs.Turns.{passed, found, size_in}
use Rattle.node_places.proofs.exprs.+exprs.Goals as goal

pub in_exprs-in_expr-requires : goal.in_exprs-in_expr-requires
in_exprs-in_expr-requires t c =
    let inside = size_in (λ xs. size.exprs (plains xs)) (λ x. size.expr (plain x)) c.args.es.now c.loop-e.e-index c.e-item.result (λ x xs. refl) (rw (← c.as_slice-e-items.ensures) c.loop-e-test.true) (rw (← c.as_slice-e-items.ensures) c.e-item.is) in
    (rw (← c.decreases) (omega (arith, inside)), tt)

pub in_exprs-returns-in_err-in_expr : goal.in_exprs-returns-in_err-in_expr
in_exprs-returns-in_err-in_expr t c =
    rw c.from_residual.ensures
    (found (λ xs. seek.exprs c.args.number (plains xs)) (λ x. seek.expr c.args.number (plain x)) (λ x xs. refl) c.args.es.now c.loop-e.e-index c.e-item.result c.in_err-in_expr.field-0.0
    (rw (← c.as_slice-e-items.ensures) c.loop-e-test.true) (rw (← c.as_slice-e-items.ensures) c.e-item.is) (rw c.in_err-in_expr.was at c.in_expr.ensures) c.loop-e.invariant)

pub in_exprs-loop-e-preserved : goal.in_exprs-loop-e-preserved
in_exprs-loop-e-preserved t c =
    passed (λ xs. seek.exprs c.args.number (plains xs)) (λ x. seek.expr c.args.number (plain x)) (λ x xs. refl) c.args.es.now c.loop-e.e-index c.e-item.result
    (rw (← c.as_slice-e-items.ensures) c.loop-e-test.true) (rw (← c.as_slice-e-items.ensures) c.e-item.is) (rw c.in_ok-in_expr.was at c.in_expr.ensures) c.loop-e.invariant
