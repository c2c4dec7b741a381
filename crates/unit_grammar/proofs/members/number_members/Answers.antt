use Rattle.std.proofs.Common.{arith}
use Rattle.unit_grammar.proofs.Walks.{member_at, members_go_on, members_end, members_counted}
use Rattle.unit_grammar.proofs.members.number_members.Goals as goal

pub number_member-next-requires : goal.number_member-next-requires
number_member-next-requires c =
    let at = member_at _ _ _ _ _ _ c.loop-i.invariant c.at_mut.ensures.value in
    omega arith

pub loop-i-preserved : goal.loop-i-preserved
loop-i-preserved c = members_go_on _ _ _ _ _ _ _ _ c.loop-i.invariant c.at_mut.ensures.value c.number_member-next.ensures.tree

pub returns-clause-tree : goal.returns-clause-tree
returns-clause-tree c = members_end _ _ _ _ _ c.loop-i.invariant (omega arith)

pub returns-clause-count : goal.returns-clause-count
returns-clause-count c = members_counted _ _ _ _ _ c.loop-i.invariant (omega arith)
