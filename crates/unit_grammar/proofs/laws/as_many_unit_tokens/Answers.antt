use Rattle.unit_grammar.proofs.Extents.{unit_spans}
use Rattle.unit_grammar.proofs.laws.as_many_unit_tokens.Goals as goal

pub returns : goal.returns
returns c = unit_spans
