use Rattle.std.proofs.Common.{◌+◌, ◌*◌}
use Rattle.java_core.specs.View.{plain}
use Rattle.thrown_exceptions.proofs.Heights.{height}
use Rattle.type_constraints.proofs.changed.+changed.Given as goal

abbrev pub decreases-changed : goal.decreases-changed
decreases-changed l = height (plain l.e.now) * 2

abbrev pub decreases-arms : goal.decreases-arms
decreases-arms l = (height (plain l.yes.now) + height (plain l.no.now)) * 2 + 1
