use Rattle.java_parse_term.proofs.Answered.{one_type}
use Rattle.java_parse_term.proofs.laws.one_type.Goals as goal

pub returns : goal.returns
returns c = one_type
