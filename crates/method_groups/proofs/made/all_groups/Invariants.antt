use Rattle.std.proofs.Common.{◌≡◌, length}
use Rattle.method_groups.specs.Constructors.{found_in}
use Rattle.method_groups.specs.Groups.{AreReady, HoldsConstructors}
use Rattle.method_groups.proofs.Groups.{HavePlaces}
use Rattle.method_groups.proofs.made.all_groups.Given as goal

abbrev pub invariant-loop-m : goal.invariant-loop-m
invariant-loop-m l = record {
  size : length l.places.items ≡ l.m;
  constructors : HoldsConstructors l.w (found_in l.shapes) l.made.groups.items;
  ready : AreReady l.w l.labels.rows.items l.made;
  have : HavePlaces l.w l.places.items l.made.groups.items l.m;
}
