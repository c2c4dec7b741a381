use Rattle.java_core.specs.View.{plain}
use Rattle.operator_rules.proofs.Heights.{height}
use Rattle.operator_rules.proofs.finals.+is_final.Given as goal

abbrev pub decreases-is_final : goal.decreases-is_final
decreases-is_final l = height (plain l.x.now)
