use Rattle.std.proofs.Common.{◌≤◌}
use Rattle.extract_interface.proofs.created.methods_below.Given as goal

abbrev pub invariant-loop-info : goal.invariant-loop-info
invariant-loop-info l = l.count ≤ l.info-index
