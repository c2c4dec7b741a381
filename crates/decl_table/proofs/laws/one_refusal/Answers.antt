use Rattle.decl_table.proofs.Once.{one_refusal}
use Rattle.decl_table.proofs.laws.one_refusal.Goals as goal

pub returns : goal.returns
returns c names p b d x y = one_refusal names p b d x y
