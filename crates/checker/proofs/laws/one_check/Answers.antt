use Rattle.checker.proofs.Existence.{one_check, one_flow}
use Rattle.checker.proofs.laws.one_check.Goals as goal

pub returns-clause-types : goal.returns-clause-types
returns-clause-types c = one_check

pub returns-clause-flow : goal.returns-clause-flow
returns-clause-flow c = one_flow
