use Rattle.std.proofs.Common.{Bool, map, drop, ◌≡◌}
use Rattle.std.specs.Option.{option_map}
use Rattle.java_tree.specs.View.{plain}
use Rattle.java_tree.specs.declared.tree.Name.{Name}
use Rattle.decl_rules.specs.Generic.{Told}
use Rattle.decl_rules.specs.Walk as spec
use Rattle.decl_rules.proofs.vars.walk_labels.Given as goal

abbrev pub invariant-loop-e : goal.invariant-loop-e
invariant-loop-e g l = (generic : Name → Bool) → Told (g.G.GenericNames.answers l.generics.names.now) generic → spec.labels (spec.is_nested generic l.generics.vars.now) (map (option_map plain) (drop l.e-index l.es)) l.first ≡ spec.labels (spec.is_nested generic l.generics.vars.now) (map (option_map plain) l.es) l.fn.first
