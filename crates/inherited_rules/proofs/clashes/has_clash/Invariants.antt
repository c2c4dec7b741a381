use Rattle.std.proofs.Common.{nat_eq}
use Rattle.std.specs.HashMap.{get}
use Rattle.inherited_rules.specs.Numbers.{AreLike}
use Rattle.inherited_rules.proofs.clashes.has_clash.Given as goal

abbrev pub invariant-loop-m : goal.invariant-loop-m
invariant-loop-m l = AreLike l.w l.c l.numbers l.members l.m-index (get nat_eq l.firsts)
