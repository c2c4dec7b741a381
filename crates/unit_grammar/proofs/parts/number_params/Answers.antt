use Rattle.std.proofs.Common.{arith}
use Rattle.unit_grammar.proofs.Walks.{param_at, params_go_on, params_end, params_counted}
use Rattle.unit_grammar.proofs.parts.number_params.Goals as goal

pub number_param-next-requires : goal.number_param-next-requires
number_param-next-requires c =
    let at = param_at _ _ _ _ _ _ c.loop-i.invariant c.at_mut.ensures.value in
    omega arith

pub loop-i-preserved : goal.loop-i-preserved
loop-i-preserved c = params_go_on _ _ _ _ _ _ _ _ c.loop-i.invariant c.at_mut.ensures.value c.number_param-next.ensures.tree

pub returns-clause-tree : goal.returns-clause-tree
returns-clause-tree c = params_end _ _ _ _ _ c.loop-i.invariant (omega arith)

pub returns-clause-count : goal.returns-clause-count
returns-clause-count c = params_counted _ _ _ _ _ c.loop-i.invariant (omega arith)
