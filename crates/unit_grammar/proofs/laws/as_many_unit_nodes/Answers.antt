use Rattle.unit_grammar.proofs.Counts.{unit_count}
use Rattle.unit_grammar.proofs.laws.as_many_unit_nodes.Goals as goal

pub returns : goal.returns
returns c = unit_count
