use Rattle.refactor_app.proofs.OneOutcome.{one_outcome}
use Rattle.refactor_app.proofs.laws.one_outcome.Goals as goal

pub returns : goal.returns
returns c words look a b x y = one_outcome words look a b x y
