use Rattle.std.proofs.Common.{◌≡◌, length}
use Rattle.class_world.proofs.Collected.{MarkFirst}
use Rattle.class_world.proofs.rows.mark_generic.Given as goal

abbrev pub invariant-loop-c : goal.invariant-loop-c
invariant-loop-c l = record {
  len : length l.words ≡ length l.fn.words;
  marks : MarkFirst l.w l.words l.c;
}
