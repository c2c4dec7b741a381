use Rattle.std.proofs.Common.{◌≡◌, length}
use Rattle.override_rules.proofs.Clauses.{AreBitsBefore}
use Rattle.override_rules.proofs.bits.set_classes.Given as goal

abbrev pub invariant-loop-t : goal.invariant-loop-t
invariant-loop-t l = record {
  len : length l.words ≡ length l.fn.words;
  bits : AreBitsBefore l.types l.words l.t-index;
}
