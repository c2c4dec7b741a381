use Rattle.std.proofs.Common.{ℕ, ◌<◌}
use Rattle.class_world.specs.Overriding.{AreInstanceMethods, Replaces}
use Rattle.overrides.specs.AtOnce.{AreTies, IsTied}
use Rattle.overrides.proofs.at_once.add_declared.Given as goal

abbrev pub invariant-loop-m : goal.invariant-loop-m
invariant-loop-m l = record {
  ties : AreTies l.w l.table;
  all : (m : ℕ) → m < l.m → (c k : ℕ) → Replaces l.w c m k → AreInstanceMethods l.w m k → IsTied l.table m k;
}
