use Rattle.std.proofs.Common.{◌≡◌, ◌+◌, ◌≤◌, ◌-◌, ◌^◌, min, map, drop}
use Rattle.java_tree.specs.View.{decl_plain}
use Rattle.decl_rules.specs.DeclaredRules as rule
use Rattle.decl_rules.proofs.counting.count_methods.Given as goal

abbrev pub invariant-loop-d : goal.invariant-loop-d
invariant-loop-d l = record {
  so_far : min (l.methods + rule.methods_of (map decl_plain (drop l.d-index l.types))) (2 ^ 64 - 1) ≡ min (l.fn.methods + rule.methods_of (map decl_plain l.types)) (2 ^ 64 - 1);
  fits : l.methods ≤ 2 ^ 64 - 1;
}
