use Rattle.std.proofs.Common.{◌≡◌, ℕ, ◌<◌, Some}
use Rattle.std.specs.Prelude.{slice_get}
use Rattle.class_world.specs.Signatures.{AgreeBelow}
use Rattle.class_world.specs.Overriding.{AreInstanceMethods}
use Rattle.method_ties.specs.declared.Meeting.{Meeting}
use Rattle.overrides.specs.AtOnce.{AreTies, IsTied, KeepsTies}
use Rattle.overrides.proofs.at_once.add_meetings.Given as goal

abbrev pub invariant-loop-meeting : goal.invariant-loop-meeting
invariant-loop-meeting l = record {
  ties : AreTies l.w l.table;
  kept : KeepsTies l.fn.table l.table;
  all : (j : ℕ) (p : Meeting) → j < l.meeting-index → slice_get l.meetings j ≡ Some p → AreInstanceMethods l.w p.lower p.upper → AgreeBelow l.w p.lower p.upper → IsTied l.table p.lower p.upper;
}
