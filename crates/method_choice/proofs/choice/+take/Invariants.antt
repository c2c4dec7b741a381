use Rattle.std.proofs.Common.{length}
use Rattle.method_choice.proofs.choice.+take.Given as goal

abbrev pub decreases-take : goal.decreases-take
decreases-take l = length l.params.now
