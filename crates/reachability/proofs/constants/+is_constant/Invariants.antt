use Rattle.java_core.specs.View.{plain}
use Rattle.reachability.proofs.Heights.{brackets}
use Rattle.reachability.proofs.constants.+is_constant.Given as goal

abbrev pub decreases-is_constant : goal.decreases-is_constant
decreases-is_constant l = brackets (plain l.x.now)
