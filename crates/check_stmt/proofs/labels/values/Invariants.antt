use Rattle.std.proofs.Common.{◌≡◌, map, take}
use Rattle.check_stmt.specs.Labels as spec
use Rattle.check_stmt.proofs.labels.values.Given as goal

abbrev pub invariant-loop-label : goal.invariant-loop-label
invariant-loop-label l = l.done ≡ map spec.value_of (take l.label-index l.labels)
