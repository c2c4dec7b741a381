use Rattle.inherited_rules.proofs.Judged.{AreSeen}
use Rattle.inherited_rules.proofs.unresolved.has_unlike.Given as goal

abbrev pub invariant-loop-m : goal.invariant-loop-m
invariant-loop-m l = AreSeen l.w l.c l.methods l.m-index l.results
