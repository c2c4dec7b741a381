use Rattle.std.proofs.Common.{length}
use Rattle.member_methods.proofs.made.+inherited.Given as goal

abbrev pub decreases-inherited : goal.decreases-inherited
decreases-inherited l = length l.above.now
