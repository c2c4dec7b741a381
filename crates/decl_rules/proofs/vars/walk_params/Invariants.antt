use Rattle.std.proofs.Common.{Bool, map, drop, ◌≡◌}
use Rattle.java_tree.specs.View.{param_plain}
use Rattle.java_tree.specs.declared.tree.Name.{Name}
use Rattle.decl_rules.specs.Generic.{Told}
use Rattle.decl_rules.specs.Walk as spec
use Rattle.decl_rules.proofs.vars.walk_params.Given as goal

abbrev pub invariant-loop-p : goal.invariant-loop-p
invariant-loop-p g l = (generic : Name → Bool) → Told (g.G.GenericNames.answers l.generics.names.now) generic → spec.params (spec.is_nested generic l.generics.vars.now) (map param_plain (drop l.p-index l.params)) l.first ≡ spec.params (spec.is_nested generic l.generics.vars.now) (map param_plain l.params) l.fn.first
