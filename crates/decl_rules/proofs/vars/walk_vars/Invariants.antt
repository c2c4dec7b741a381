use Rattle.std.proofs.Common.{Bool, map, drop, ◌≡◌}
use Rattle.java_tree.specs.View.{var_plain}
use Rattle.java_tree.specs.declared.tree.Name.{Name}
use Rattle.decl_rules.specs.Generic.{Told}
use Rattle.decl_rules.specs.Walk as spec
use Rattle.decl_rules.proofs.vars.walk_vars.Given as goal

abbrev pub invariant-loop-v : goal.invariant-loop-v
invariant-loop-v g l = (generic : Name → Bool) → Told (g.G.GenericNames.answers l.generics.names.now) generic → spec.vars (spec.is_nested generic l.generics.vars.now) (map var_plain (drop l.v-index l.vars)) l.first ≡ spec.vars (spec.is_nested generic l.generics.vars.now) (map var_plain l.vars) l.fn.first
