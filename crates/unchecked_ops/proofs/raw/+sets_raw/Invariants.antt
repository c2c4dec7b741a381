use Rattle.java_core.specs.View.{plain}
use Rattle.unchecked_ops.proofs.Heights.{height}
use Rattle.unchecked_ops.proofs.raw.+sets_raw.Given as goal

abbrev pub decreases-sets_raw : goal.decreases-sets_raw
decreases-sets_raw l = height (plain l.e.now)
