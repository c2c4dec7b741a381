use Rattle.method_groups.specs.Taking.{AreTaken, KeepsTakers}
use Rattle.method_groups.proofs.Takers.{TakesFirst}
use Rattle.method_groups.proofs.taking.take_all.Given as goal

abbrev pub invariant-loop-m : goal.invariant-loop-m
invariant-loop-m l = record {
  taken : AreTaken l.takers.items l.label l.taken.items;
  adds : TakesFirst l.initial.taken.items l.taken.items l.methods l.m-index;
  kept : KeepsTakers l.initial.takers.items l.takers.items l.label;
}
