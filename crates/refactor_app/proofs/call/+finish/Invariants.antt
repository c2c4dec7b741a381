use Rattle.std.proofs.Common.{length}
use Rattle.refactor_app.proofs.call.+finish.Given as goal

abbrev pub decreases-finish : goal.decreases-finish
decreases-finish g l = length l.outputs.now
