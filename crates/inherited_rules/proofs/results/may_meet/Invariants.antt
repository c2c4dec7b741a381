use Rattle.std.proofs.Common.{nat_eq}
use Rattle.std.specs.HashSet.{contains}
use Rattle.inherited_rules.specs.Numbers.{AreSingle}
use Rattle.inherited_rules.proofs.results.may_meet.Given as goal

abbrev pub invariant-loop-m : goal.invariant-loop-m
invariant-loop-m l = AreSingle l.w l.c l.numbers l.members l.m-index (contains nat_eq l.seen)
