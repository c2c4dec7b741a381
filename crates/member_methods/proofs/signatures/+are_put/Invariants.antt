use Rattle.std.proofs.Common.{length}
use Rattle.member_methods.proofs.signatures.+are_put.Given as goal

abbrev pub decreases-are_put : goal.decreases-are_put
decreases-are_put l = length l.xs.now
