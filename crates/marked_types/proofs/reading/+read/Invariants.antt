use Rattle.std.proofs.Common.{◌+◌, ◌*◌}
use Rattle.java_core.specs.View.{plain}
use Rattle.marked_types.proofs.Heights.{height}
use Rattle.marked_types.proofs.reading.+read.Given as goal

abbrev pub decreases-read : goal.decreases-read
decreases-read l = height (plain l.e.now) * 2

abbrev pub decreases-conditional : goal.decreases-conditional
decreases-conditional l = (height (plain l.yes.now) + height (plain l.no.now)) * 2 + 1
