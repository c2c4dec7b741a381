use Rattle.std.proofs.Common.{length}
use Rattle.member_fields.proofs.inherited.+merged_all.Given as goal

abbrev pub decreases-merged_all : goal.decreases-merged_all
decreases-merged_all l = length l.classes.now
