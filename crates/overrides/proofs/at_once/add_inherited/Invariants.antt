use Rattle.std.proofs.Common.{ℕ, ◌<◌}
use Rattle.class_world.specs.Signatures.{AgreeBelow}
use Rattle.class_world.specs.Overriding.{AreInstanceMethods, MeetIn}
use Rattle.overrides.specs.AtOnce.{AreTies, IsTied, KeepsTies}
use Rattle.overrides.proofs.at_once.add_inherited.Given as goal

abbrev pub invariant-loop-c : goal.invariant-loop-c
invariant-loop-c l = record {
  ties : AreTies l.w l.table;
  kept : KeepsTies l.fn.table l.table;
  all : (c : ℕ) → c < l.c → (m k : ℕ) → MeetIn l.w c m k → AreInstanceMethods l.w m k → AgreeBelow l.w m k → IsTied l.table m k;
}
