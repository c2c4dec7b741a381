use Rattle.std.proofs.Common.{◌≡◌, ◌+◌, ◌≤◌, ◌-◌, ◌^◌, min, map, drop}
use Rattle.java_tree.specs.View.{member_plain}
use Rattle.decl_rules.specs.DeclaredRules as rule
use Rattle.decl_rules.proofs.counting.count_members.Given as goal

abbrev pub invariant-loop-m : goal.invariant-loop-m
invariant-loop-m l = record {
  so_far : min (l.methods + rule.methods_among (map member_plain (drop l.m-index l.members))) (2 ^ 64 - 1) ≡ min (l.fn.methods + rule.methods_among (map member_plain l.members)) (2 ^ 64 - 1);
  fits : l.methods ≤ 2 ^ 64 - 1;
}
