use Rattle.std.proofs.Common.{map, drop, ◌≡◌, ◌++◌}
use Rattle.java_tree.specs.View.{var_plain}
use Rattle.decl_rules.specs.DeclaredLooks as spec
use Rattle.decl_rules.proofs.repeats.push_vars.Given as goal

abbrev pub invariant-loop-v : goal.invariant-loop-v
invariant-loop-v l = l.list.items ++ map spec.named_var (map var_plain (drop l.v-index l.vars)) ≡ l.fn.list.items ++ map spec.named_var (map var_plain l.vars)
