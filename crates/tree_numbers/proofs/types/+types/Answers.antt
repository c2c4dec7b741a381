use Rattle.std.proofs.Common.{arith}
use Rattle.tree_numbers.proofs.Walks.{type_at, types_go_on, types_end, types_counted, type_done}
use Rattle.tree_numbers.proofs.types.+types.Goals as goal

pub number_type-returns-clause-tree : goal.number_type-returns-clause-tree
number_type-returns-clause-tree t c = type_done _ _ _ _ c.number_types.ensures.tree

pub number_types-number_type-next-requires : goal.number_types-number_type-next-requires
number_types-number_type-next-requires t c =
    let at = type_at _ _ _ _ _ _ c.loop-i.invariant c.at_mut.ensures.value in
    (rw (← c.decreases) (omega arith), omega arith)

pub number_types-loop-i-preserved : goal.number_types-loop-i-preserved
number_types-loop-i-preserved t c = types_go_on _ _ _ _ _ _ _ _ c.loop-i.invariant c.at_mut.ensures.value c.number_type-next.ensures.tree

pub number_types-returns-clause-tree : goal.number_types-returns-clause-tree
number_types-returns-clause-tree t c = types_end _ _ _ _ _ c.loop-i.invariant (omega arith)

pub number_types-returns-clause-count : goal.number_types-returns-clause-count
number_types-returns-clause-count t c = types_counted _ _ _ _ _ c.loop-i.invariant (omega arith)
