use Rattle.std.proofs.Common.{◌≡◌, ℕ, ◌<◌, Some}
use Rattle.std.specs.Prelude.{slice_get}
use Rattle.class_world.specs.Overriding.{AreInstanceMethods}
use Rattle.overrides.specs.AtOnce.{AreTies, IsTied, KeepsTies}
use Rattle.overrides.proofs.at_once.add_replaced.Given as goal

abbrev pub invariant-loop-k : goal.invariant-loop-k
invariant-loop-k l = record {
  ties : AreTies l.w l.table;
  kept : KeepsTies l.fn.table l.table;
  all : (j k : ℕ) → j < l.k-index → slice_get l.replaced j ≡ Some k → AreInstanceMethods l.w l.m k → IsTied l.table l.m k;
}
