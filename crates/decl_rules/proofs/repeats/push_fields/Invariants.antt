use Rattle.std.proofs.Common.{map, drop, ◌≡◌, ◌++◌}
use Rattle.java_tree.specs.View.{member_plain}
use Rattle.decl_rules.specs.DeclaredRules.{field_vars}
use Rattle.decl_rules.specs.DeclaredLooks as spec
use Rattle.decl_rules.proofs.repeats.push_fields.Given as goal

abbrev pub invariant-loop-m : goal.invariant-loop-m
invariant-loop-m l = l.list.items ++ map spec.named_var (field_vars (map member_plain (drop l.m-index l.members))) ≡ l.fn.list.items ++ map spec.named_var (field_vars (map member_plain l.members))
