use Rattle.std.proofs.Common.{◌≡◌, length}
use Rattle.class_world.specs.Meets.{AreRows}
use Rattle.class_world.proofs.class_rows.class_rows.Given as goal

abbrev pub invariant-loop-place : goal.invariant-loop-place
invariant-loop-place l = record {
  len : length l.rows.items ≡ length l.w.types;
  rows : AreRows l.w l.listed.items l.rows.items;
}
