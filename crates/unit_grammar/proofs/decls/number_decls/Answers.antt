use Rattle.std.proofs.Common.{arith}
use Rattle.unit_grammar.proofs.Walks.{decl_at, decls_go_on, decls_end, decls_counted}
use Rattle.unit_grammar.proofs.decls.number_decls.Goals as goal

pub number_decl-next-requires : goal.number_decl-next-requires
number_decl-next-requires c =
    let at = decl_at _ _ _ _ _ _ c.loop-i.invariant c.at_mut.ensures.value in
    omega arith

pub loop-i-preserved : goal.loop-i-preserved
loop-i-preserved c = decls_go_on _ _ _ _ _ _ _ _ c.loop-i.invariant c.at_mut.ensures.value c.number_decl-next.ensures.tree

pub returns-clause-tree : goal.returns-clause-tree
returns-clause-tree c = decls_end _ _ _ _ _ c.loop-i.invariant (omega arith)

pub returns-clause-count : goal.returns-clause-count
returns-clause-count c = decls_counted _ _ _ _ _ c.loop-i.invariant (omega arith)
