use Rattle.java_core.specs.View.{plain}
use Rattle.definite_assignment.proofs.Heights.{height}
use Rattle.definite_assignment.proofs.fields.+assign.Given as goal

abbrev pub decreases-assign : goal.decreases-assign
decreases-assign l = height (plain l.to.now)
