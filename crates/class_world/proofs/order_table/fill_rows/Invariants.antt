use Rattle.std.proofs.Common.{◌≡◌, ℕ, ◌<◌, Some, length}
use Rattle.std.specs.Prelude.{slice_get}
use Rattle.class_world.specs.Merged.{HasRow, HaveShortcuts}
use Rattle.class_world.proofs.order_table.fill_rows.Given as goal

abbrev pub invariant-loop-c : goal.invariant-loop-c
invariant-loop-c l = record {
  len : length l.rows.items ≡ length l.w.types;
  filled : (k c : ℕ) → k < l.c-index → slice_get l.listed k ≡ Some c → HasRow l.w l.rows.items c;
  shortcuts : HaveShortcuts l.w l.rows.items;
}
