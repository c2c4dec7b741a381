use Rattle.method_ties.specs.Sides.{AreAll}
use Rattle.found_methods.proofs.Leasts.{IsLeast}
use Rattle.found_methods.proofs.labels.labels_of.Given as goal

abbrev pub invariant-loop-m : goal.invariant-loop-m
invariant-loop-m l = AreAll (IsLeast l.w) l.labels.items l.m
