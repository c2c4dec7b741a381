use Rattle.std.proofs.Common.{arith}
use Rattle.tree_numbers.proofs.Walks.{expr_at, exprs_go_on, exprs_end, exprs_counted}
use Rattle.tree_numbers.proofs.exprs.+exprs.Goals as goal

pub number_exprs-number_expr-next-requires : goal.number_exprs-number_expr-next-requires
number_exprs-number_expr-next-requires t c =
    let at = expr_at _ _ _ _ _ _ c.loop-i.invariant c.at_mut.ensures.value in
    (rw (← c.decreases) (omega arith), omega arith)

pub number_exprs-loop-i-preserved : goal.number_exprs-loop-i-preserved
number_exprs-loop-i-preserved t c = exprs_go_on _ _ _ _ _ _ _ _ c.loop-i.invariant c.at_mut.ensures.value c.number_expr-next.ensures.tree

pub number_exprs-returns-clause-tree : goal.number_exprs-returns-clause-tree
number_exprs-returns-clause-tree t c = exprs_end _ _ _ _ _ c.loop-i.invariant (omega arith)

pub number_exprs-returns-clause-count : goal.number_exprs-returns-clause-count
number_exprs-returns-clause-count t c = exprs_counted _ _ _ _ _ c.loop-i.invariant (omega arith)
