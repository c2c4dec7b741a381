use Rattle.std.proofs.Common.{◌≡◌, ℕ, ◌<◌, true, Some, length}
use Rattle.std.specs.Prelude.{slice_get}
use Rattle.class_world.specs.Meets.{ArePaths}
use Rattle.class_world.specs.Ordered.{IsClassBelowTwo, IsSingleClass}
use Rattle.class_world.proofs.below_two.doubled_classes.Given as goal

abbrev pub invariant-loop-c : goal.invariant-loop-c
invariant-loop-c l = record {
  len : length l.doubled.items ≡ length l.w.types;
  marked : (c : ℕ) → slice_get l.doubled.items c ≡ Some true → IsClassBelowTwo l.w c;
  single : (k c : ℕ) → k < l.c-index → slice_get l.c-items k ≡ Some c → (slice_get l.doubled.items c ≡ Some true → ⊥) → IsSingleClass l.w c;
  paths : ArePaths l.w l.paths;
}
