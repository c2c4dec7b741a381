use Rattle.java_tree.proofs.Tables.{distinct}
use Rattle.java_tree.proofs.names.Names.len.Goals as goal

pub returns-clause-distinct : goal.returns-clause-distinct
returns-clause-distinct c = rw (← c.self.view_is) (distinct c.self.inside.texts.keys c.len.ensures.unique)
