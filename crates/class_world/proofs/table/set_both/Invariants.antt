use Rattle.std.proofs.Common.{◌≡◌, length}
use Rattle.class_world.specs.Sound.{IsSet}
use Rattle.class_world.proofs.Words.{SetsBefore}
use Rattle.class_world.proofs.table.set_both.Given as goal

abbrev pub invariant-loop-i : goal.invariant-loop-i
invariant-loop-i l = record {
  len : length l.words ≡ length l.initial.words;
  sets : SetsBefore l.initial.words l.words (λ h. IsSet l.more h × IsSet l.mask h) l.i;
}
