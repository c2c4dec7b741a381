use Rattle.std.proofs.Common.{◌≡◌, ℕ, List, Some}
use Rattle.std.specs.Prelude.{slice_get}
use Rattle.overrides.proofs.Groups.{IsMoving}
use Rattle.overrides.proofs.families.relabel.Given as goal

abbrev pub invariant-loop-m : goal.invariant-loop-m
invariant-loop-m l = record {
  row : List ℕ;
  is_moved : slice_get l.fn.members.items l.from ≡ Some l.m-items;
  is_row : slice_get l.fn.members.items l.into ≡ Some row;
  moving : IsMoving l.fn.labels.items l.labels.items l.fn.members.items l.members.items l.from l.into l.m-items row l.m-index;
}
