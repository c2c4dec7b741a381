use Rattle.bound_laws.proofs.Runs.{runs_go_on}
use Rattle.bound_laws.proofs.runs_go_on.Goals as goal

pub returns : goal.returns
returns c = runs_go_on
