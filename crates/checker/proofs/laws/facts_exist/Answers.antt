use Rattle.checker.proofs.Existence.{has_order, have_facts}
use Rattle.checker.proofs.laws.facts_exist.Goals as goal

pub returns-clause-facts : goal.returns-clause-facts
returns-clause-facts c = have_facts

pub returns-clause-order : goal.returns-clause-order
returns-clause-order c = has_order
