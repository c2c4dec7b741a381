use Rattle.std.proofs.Common.{arith}
use Rattle.tree_numbers.proofs.Walks.{label_at, labels_go_on, labels_end, labels_counted}
use Rattle.tree_numbers.proofs.vars.number_labels.Goals as goal

pub number_init-next-requires : goal.number_init-next-requires
number_init-next-requires c =
    let at = label_at _ _ _ _ _ _ c.loop-i.invariant c.at_mut.ensures.value in
    omega arith

pub loop-i-preserved : goal.loop-i-preserved
loop-i-preserved c = labels_go_on _ _ _ _ _ _ _ _ c.loop-i.invariant c.at_mut.ensures.value c.number_init-next.ensures.tree

pub returns-clause-tree : goal.returns-clause-tree
returns-clause-tree c = labels_end _ _ _ _ _ c.loop-i.invariant (omega arith)

pub returns-clause-count : goal.returns-clause-count
returns-clause-count c = labels_counted _ _ _ _ _ c.loop-i.invariant (omega arith)
