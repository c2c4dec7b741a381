use Rattle.std.proofs.Common.{length}
use Rattle.refactor_app.proofs.decide.+push_outputs.Given as goal

abbrev pub decreases-push_outputs : goal.decreases-push_outputs
decreases-push_outputs l = length l.files.now
