use Rattle.decl_table.proofs.Once.{one_program}
use Rattle.decl_table.proofs.laws.one_program.Goals as goal

pub returns : goal.returns
returns c names user lib p q d a b = one_program names user lib p q d a b
