use Rattle.std.proofs.Common.{length}
use Rattle.member_uses.proofs.calls.+some_unchecked.Given as goal

abbrev pub decreases-some_unchecked : goal.decreases-some_unchecked
decreases-some_unchecked l = length l.params.now
