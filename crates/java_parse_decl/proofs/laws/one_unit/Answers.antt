use Rattle.java_parse_decl.proofs.Answered.{one}
use Rattle.java_parse_decl.proofs.laws.one_unit.Goals as goal

pub returns : goal.returns
returns c = one
