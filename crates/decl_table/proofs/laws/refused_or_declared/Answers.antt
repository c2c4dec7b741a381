use Rattle.decl_table.proofs.Once.{refused_or_declared}
use Rattle.decl_table.proofs.laws.refused_or_declared.Goals as goal

pub returns : goal.returns
returns c names p b w x h = refused_or_declared names p b w x h
