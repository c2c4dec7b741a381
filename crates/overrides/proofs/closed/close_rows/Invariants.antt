use Rattle.overrides.specs.Rounds.{IsClosed}
use Rattle.overrides.proofs.Gains.{IsPass}
use Rattle.overrides.proofs.closed.close_rows.Given as goal

abbrev pub invariant-loop-m : goal.invariant-loop-m
invariant-loop-m l = IsPass l.w l.fn.table l.table l.added (IsClosed l.w) l.m
