use Rattle.std.proofs.Common.{arith}
use Rattle.tree_numbers.proofs.Walks.{var_at, vars_go_on, vars_end, vars_counted}
use Rattle.tree_numbers.proofs.vars.number_vars.Goals as goal

pub number_var-next-requires : goal.number_var-next-requires
number_var-next-requires c =
    let at = var_at _ _ _ _ _ _ c.loop-i.invariant c.at_mut.ensures.value in
    omega arith

pub loop-i-preserved : goal.loop-i-preserved
loop-i-preserved c = vars_go_on _ _ _ _ _ _ _ _ c.loop-i.invariant c.at_mut.ensures.value c.number_var-next.ensures.tree

pub returns-clause-tree : goal.returns-clause-tree
returns-clause-tree c = vars_end _ _ _ _ _ c.loop-i.invariant (omega arith)

pub returns-clause-count : goal.returns-clause-count
returns-clause-count c = vars_counted _ _ _ _ _ c.loop-i.invariant (omega arith)
