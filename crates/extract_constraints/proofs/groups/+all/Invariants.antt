use Rattle.std.proofs.Common.{length}
use Rattle.extract_constraints.proofs.groups.+all.Given as goal

abbrev pub decreases-all_erase_alike : goal.decreases-all_erase_alike
decreases-all_erase_alike l = length l.ts.now
