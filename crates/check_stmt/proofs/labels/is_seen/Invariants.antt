use Rattle.std.proofs.Common.{◌≡◌, drop}
use Rattle.check_stmt.specs.Labels as spec
use Rattle.check_stmt.proofs.labels.is_seen.Given as goal

abbrev pub invariant-loop-other : goal.invariant-loop-other
invariant-loop-other l = spec.is_seen l.value (drop l.other-index l.seen) ≡ spec.is_seen l.value l.seen
