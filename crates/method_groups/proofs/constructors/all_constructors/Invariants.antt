use Rattle.method_groups.specs.Constructors.{AreLists, found_in}
use Rattle.method_groups.proofs.Shapes.{AreBelow}
use Rattle.method_groups.proofs.constructors.all_constructors.Given as goal

abbrev pub invariant-loop-m : goal.invariant-loop-m
invariant-loop-m l = record {
  lists : AreLists (found_in l.found.places) l.found.lists.items;
  below : AreBelow l.w (found_in l.found.places) l.found.lists.items l.m;
}
