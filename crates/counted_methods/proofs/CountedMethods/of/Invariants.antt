use Rattle.counted_methods.proofs.Making.{IsBuilding}
use Rattle.counted_methods.proofs.CountedMethods.of.Given as goal

abbrev pub invariant-loop-c : goal.invariant-loop-c
invariant-loop-c l = IsBuilding l.w l.c-items l.c-index l.counted
