use Rattle.found_methods.specs.Own.{HoldsOwn}
use Rattle.found_methods.proofs.own.Own.of.Given as goal

abbrev pub invariant-loop-m : goal.invariant-loop-m
invariant-loop-m l = HoldsOwn l.w l.labels l.m l.own
