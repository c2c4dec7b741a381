use Rattle.std.proofs.Common.{refl, arith}
use Rattle.java_tree.specs.View.{plain, plains}
use Rattle.tree_numbers.specs.Sizes as size
use Rattle.node_places.proofs.Turns.{size_in}
use Rattle.node_lists.proofs.exprs.+exprs.Goals as goal

pub in_exprs-in_expr-requires : goal.in_exprs-in_expr-requires
in_exprs-in_expr-requires t c =
    let inside = size_in (λ xs. size.exprs (plains xs)) (λ x. size.expr (plain x)) c.args.es.now c.loop-e.e-index c.e-item.result (λ x xs. refl) (rw (← c.as_slice-e-items.ensures) c.loop-e-test.true) (rw (← c.as_slice-e-items.ensures) c.e-item.is) in
    (rw (← c.decreases) (omega (arith, inside)), tt)
