use Rattle.std.proofs.Common.{◌≤◌}
use Rattle.extract_interface.proofs.created.behind_users.Given as goal

abbrev pub invariant-loop-at : goal.invariant-loop-at
invariant-loop-at l = l.behind ≤ l.at
