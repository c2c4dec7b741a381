use Rattle.std.specs.HashSet.{contains}
use Rattle.rule_order.specs.First.{IsFirst}
use Rattle.method_rules.proofs.Keys.{same_key}
use Rattle.method_rules.proofs.Repeating.{HoldsKeys, RepeatsBefore}
use Rattle.method_rules.proofs.repeats.first_repeated.Given as goal

abbrev pub invariant-loop-m : goal.invariant-loop-m
invariant-loop-m l = record {
  held : HoldsKeys l.methods l.m-index (contains same_key l.seen);
  found : IsFirst (RepeatsBefore l.methods l.m-index) l.first;
}
