use Rattle.std.proofs.Common.{◌≡◌, length}
use Rattle.class_world.specs.Sound.{IsSet}
use Rattle.class_world.proofs.Words.{SetsBefore}
use Rattle.class_world.proofs.table.set_all.Given as goal

abbrev pub invariant-loop-i : goal.invariant-loop-i
invariant-loop-i l = record {
  len : length l.words ≡ length l.initial.words;
  sets : SetsBefore l.initial.words l.words (IsSet l.more) l.i;
}
