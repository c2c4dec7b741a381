use Rattle.alike_laws.proofs.Runs.{corresponding_alike}
use Rattle.alike_laws.proofs.corresponding_alike.Goals as goal

pub returns : goal.returns
returns c = corresponding_alike
