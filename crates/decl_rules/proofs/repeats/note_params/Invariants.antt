use Rattle.std.proofs.Common.{map, drop, ◌≡◌, ◌++◌}
use Rattle.java_tree.specs.View.{param_plain}
use Rattle.decl_rules.specs.DeclaredLooks as spec
use Rattle.decl_rules.proofs.repeats.note_params.Given as goal

abbrev pub invariant-loop-p : goal.invariant-loop-p
invariant-loop-p l = l.list.items ++ map spec.named_param (map param_plain (drop l.p-index l.params)) ≡ map spec.named_param (map param_plain l.params)
