use Rattle.overrides.proofs.Chains.{HasThrough}
use Rattle.overrides.proofs.Gains.{AtPlace, IsPass}
use Rattle.overrides.proofs.closed.close_row.Given as goal

abbrev pub invariant-loop-entry : goal.invariant-loop-entry
invariant-loop-entry l = IsPass l.w l.fn.table l.table l.added (AtPlace l.entry-items (HasThrough l.w l.m)) l.entry-index
