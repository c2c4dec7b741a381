use Rattle.std.proofs.Common.{◌≡◌, ℕ, ◌<◌, ◌≤◌, ◌^◌, Some, length}
use Rattle.std.specs.Prelude.{slice_get}
use Rattle.class_world.specs.declared.world.MethodInfo.{MethodInfo}
use Rattle.method_groups.proofs.types.owner_limit.Given as goal

abbrev pub invariant-loop-info : goal.invariant-loop-info
invariant-loop-info l = record {
  types : length l.w.types ≤ l.limit;
  owners : (m : ℕ) (info : MethodInfo) → m < l.info-index → slice_get l.info-items m ≡ Some info → info.owner < l.limit;
  few : length l.w.types < l.limit → l.limit ≤ 2 ^ 32;
}
