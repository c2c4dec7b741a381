use Rattle.std.proofs.Common.{arith}
use Rattle.unit_grammar.proofs.Walks.{import_at, imports_go_on, imports_end, imports_counted}
use Rattle.unit_grammar.proofs.decls.number_imports.Goals as goal

pub overflow_add-next : goal.overflow_add-next
overflow_add-next c =
    let at = import_at _ _ _ _ _ _ c.loop-i.invariant c.at_mut.ensures.value in
    omega arith

pub loop-i-preserved : goal.loop-i-preserved
loop-i-preserved c = imports_go_on _ _ _ _ _ _ c.loop-i.invariant c.at_mut.ensures.value

pub returns-clause-tree : goal.returns-clause-tree
returns-clause-tree c = imports_end _ _ _ _ _ c.loop-i.invariant (omega arith)

pub returns-clause-count : goal.returns-clause-count
returns-clause-count c = imports_counted _ _ _ _ _ c.loop-i.invariant (omega arith)
