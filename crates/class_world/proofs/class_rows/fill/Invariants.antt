use Rattle.std.proofs.Common.{◌≡◌, ℕ, Some, length}
use Rattle.std.specs.Prelude.{slice_get}
use Rattle.class_world.specs.declared.world.TypeInfo.{TypeInfo}
use Rattle.class_world.specs.Types.{with_own}
use Rattle.class_world.proofs.Meets.{IsFilling}
use Rattle.class_world.proofs.class_rows.fill.Given as goal

abbrev pub invariant-loop-d : goal.invariant-loop-d
invariant-loop-d l = record {
  len : length l.words ≡ length l.fn.words;
  filling : (c : ℕ) (info : TypeInfo) → slice_get l.listed l.place ≡ Some c → slice_get l.w.types c ≡ Some info → IsFilling l.w l.listed (with_own c info.params) l.place l.d-items l.d-index l.words;
}
