use Rattle.std.proofs.Common.{ℕ}
use Rattle.class_world.specs.Overriding.{OverridesAtOnce}
use Rattle.overrides.specs.Tables.{Has}
use Rattle.overrides.specs.Rounds.{IsDerived}
use Rattle.overrides.proofs.Gaps.{left}
use Rattle.overrides.proofs.closed.close_all.Given as goal

abbrev pub invariant-passes : goal.invariant-passes
invariant-passes l = record {
  derived : IsDerived l.w l.table;
  at_once : (m t : ℕ) → OverridesAtOnce l.w m t → Has l.table m t;
}

abbrev pub decreases-passes : goal.decreases-passes
decreases-passes l = left l.table
