use Rattle.method_groups.proofs.Subtracting.{AreLeft, ArePassed}
use Rattle.method_groups.proofs.differences.without.Given as goal

abbrev pub invariant-loop-m : goal.invariant-loop-m
invariant-loop-m l = record {
  left : AreLeft l.methods l.others l.left.items l.m-index;
  passed : ArePassed l.methods l.others l.m-index l.at;
}
