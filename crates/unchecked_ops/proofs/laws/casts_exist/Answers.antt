use Rattle.unchecked_ops.proofs.Existence.{casts}
use Rattle.unchecked_ops.proofs.laws.casts_exist.Goals as goal

pub returns : goal.returns
returns c = casts
