use Rattle.rule_order.specs.First.{IsFirst}
use Rattle.inherited_rules.proofs.Firsts.{BreachesBelow}
use Rattle.inherited_rules.proofs.search.first_inherited_breach.Given as goal

abbrev pub invariant-loop-c : goal.invariant-loop-c
invariant-loop-c l = IsFirst (BreachesBelow l.w l.c) l.first
