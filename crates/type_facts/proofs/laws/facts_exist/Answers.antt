use Rattle.type_facts.proofs.Existence.{facts}
use Rattle.type_facts.proofs.laws.facts_exist.Goals as goal

pub returns : goal.returns
returns c = facts
