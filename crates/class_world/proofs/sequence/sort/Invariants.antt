use Rattle.std.proofs.Common.{◌≡◌, ℕ, ◌<◌, [], Some, true}
use Rattle.std.specs.Prelude.{slice_get}
use Rattle.class_world.specs.Merged.{IsSearch}
use Rattle.class_world.proofs.sequence.sort.Given as goal

abbrev pub invariant-loop-start : goal.invariant-loop-start
invariant-loop-start l = record {
  search : IsSearch l.w l.seen.items l.finished.items [] l.listed.items;
  all : (c : ℕ) → c < l.start → slice_get l.seen.items c ≡ Some true;
}
