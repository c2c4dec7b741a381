use Rattle.std.proofs.Common.{arith}
use Rattle.tree_numbers.proofs.Walks.{stmt_at, stmts_go_on, stmts_end, stmts_counted, group_at, groups_go_on, groups_end, groups_counted, catch_at, catches_go_on, catches_end, catches_counted}
use Rattle.tree_numbers.proofs.stmts.+stmts.Goals as goal

pub number_stmts-number_stmt-next-requires : goal.number_stmts-number_stmt-next-requires
number_stmts-number_stmt-next-requires t c =
    let at = stmt_at _ _ _ _ _ _ c.loop-i.invariant c.at_mut.ensures.value in
    (rw (← c.decreases) (omega arith), omega arith)

pub number_stmts-loop-i-preserved : goal.number_stmts-loop-i-preserved
number_stmts-loop-i-preserved t c = stmts_go_on _ _ _ _ _ _ _ _ c.loop-i.invariant c.at_mut.ensures.value c.number_stmt-next.ensures.tree

pub number_stmts-returns-clause-tree : goal.number_stmts-returns-clause-tree
number_stmts-returns-clause-tree t c = stmts_end _ _ _ _ _ c.loop-i.invariant (omega arith)

pub number_stmts-returns-clause-count : goal.number_stmts-returns-clause-count
number_stmts-returns-clause-count t c = stmts_counted _ _ _ _ _ c.loop-i.invariant (omega arith)

pub number_groups-number_group-next-requires : goal.number_groups-number_group-next-requires
number_groups-number_group-next-requires t c =
    let at = group_at _ _ _ _ _ _ c.loop-i.invariant c.at_mut.ensures.value in
    (rw (← c.decreases) (omega arith), omega arith)

pub number_groups-loop-i-preserved : goal.number_groups-loop-i-preserved
number_groups-loop-i-preserved t c = groups_go_on _ _ _ _ _ _ _ _ c.loop-i.invariant c.at_mut.ensures.value c.number_group-next.ensures.tree

pub number_groups-returns-clause-tree : goal.number_groups-returns-clause-tree
number_groups-returns-clause-tree t c = groups_end _ _ _ _ _ c.loop-i.invariant (omega arith)

pub number_groups-returns-clause-count : goal.number_groups-returns-clause-count
number_groups-returns-clause-count t c = groups_counted _ _ _ _ _ c.loop-i.invariant (omega arith)

pub number_catches-number_catch-next-requires : goal.number_catches-number_catch-next-requires
number_catches-number_catch-next-requires t c =
    let at = catch_at _ _ _ _ _ _ c.loop-i.invariant c.at_mut.ensures.value in
    (rw (← c.decreases) (omega arith), omega arith)

pub number_catches-loop-i-preserved : goal.number_catches-loop-i-preserved
number_catches-loop-i-preserved t c = catches_go_on _ _ _ _ _ _ _ _ c.loop-i.invariant c.at_mut.ensures.value c.number_catch-next.ensures.tree

pub number_catches-returns-clause-tree : goal.number_catches-returns-clause-tree
number_catches-returns-clause-tree t c = catches_end _ _ _ _ _ c.loop-i.invariant (omega arith)

pub number_catches-returns-clause-count : goal.number_catches-returns-clause-count
number_catches-returns-clause-count t c = catches_counted _ _ _ _ _ c.loop-i.invariant (omega arith)
