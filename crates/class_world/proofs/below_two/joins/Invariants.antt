use Rattle.std.proofs.Common.{◌≡◌, false}
use Rattle.class_world.proofs.Singles.{NoneFlagged, OneFlagged}
use Rattle.class_world.proofs.below_two.joins.Given as goal

abbrev pub invariant-loop-d : goal.invariant-loop-d
invariant-loop-d l = record {
  none : l.found ≡ false → NoneFlagged l.flags l.d-items l.d-index;
  one : OneFlagged l.flags l.d-items l.d-index;
}
