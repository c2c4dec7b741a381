use Rattle.std.proofs.Common.{arith}
use Rattle.unit_grammar.proofs.Walks.{type_at, types_go_on, types_end, types_counted}
use Rattle.unit_grammar.proofs.parts.number_types.Goals as goal

pub number_type-next-requires : goal.number_type-next-requires
number_type-next-requires c =
    let at = type_at _ _ _ _ _ _ c.loop-i.invariant c.at_mut.ensures.value in
    omega arith

pub loop-i-preserved : goal.loop-i-preserved
loop-i-preserved c = types_go_on _ _ _ _ _ _ _ _ c.loop-i.invariant c.at_mut.ensures.value c.number_type-next.ensures.tree

pub returns-clause-tree : goal.returns-clause-tree
returns-clause-tree c = types_end _ _ _ _ _ c.loop-i.invariant (omega arith)

pub returns-clause-count : goal.returns-clause-count
returns-clause-count c = types_counted _ _ _ _ _ c.loop-i.invariant (omega arith)
