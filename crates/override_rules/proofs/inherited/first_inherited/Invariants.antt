use Rattle.rule_order.specs.First.{IsFirst}
use Rattle.override_rules.specs.Judged.{TypeBreaches}
use Rattle.override_rules.proofs.Firsts.{FirstOf}
use Rattle.override_rules.proofs.inherited.first_inherited.Given as goal

abbrev pub invariant-loop-c : goal.invariant-loop-c
invariant-loop-c l = IsFirst (FirstOf l.c (TypeBreaches l.w)) l.first
