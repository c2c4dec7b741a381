use Rattle.std.proofs.Common.{◌≡◌, ℕ, ◌+◌, ◌*◌, length, Some, true}
use Rattle.std.specs.Prelude.{slice_get}
use Rattle.class_world.specs.Merged.{IsSearch}
use Rattle.class_world.proofs.Searches.{classes, unseen, HavePassed}
use Rattle.class_world.proofs.sequence.finish.Given as goal

abbrev pub invariant-loop-top : goal.invariant-loop-top
invariant-loop-top l = record {
  search : IsSearch l.w l.seen.items l.finished.items (classes l.stack.items) l.listed.items;
  passed : HavePassed l.w l.finished.items l.stack.items;
  kept : (c : ℕ) → slice_get l.fn.seen.items c ≡ Some true → slice_get l.seen.items c ≡ Some true;
}

abbrev pub decreases-loop-top : goal.decreases-loop-top
decreases-loop-top l = 2 * unseen l.seen.items + length l.stack.items
