use Rattle.std.proofs.Common.{Bool, map, drop, ◌≡◌}
use Rattle.java_tree.specs.View as view
use Rattle.java_tree.specs.View.{type_plain}
use Rattle.java_tree.specs.declared.tree.Name.{Name}
use Rattle.decl_rules.specs.Generic.{Told}
use Rattle.decl_rules.specs.Walk as spec
use Rattle.decl_rules.proofs.types.note_nested.Given as goal

abbrev pub invariant-loop-x : goal.invariant-loop-x
invariant-loop-x g l = (generic : Name → Bool) → Told (g.G.GenericNames.answers l.generics.names.now) generic → spec.nested (spec.is_nested generic l.generics.vars.now) (view.types (map type_plain (drop l.x-index l.args))) l.first
    ≡ spec.nested (spec.is_nested generic l.generics.vars.now) (view.types (map type_plain l.args)) l.fn.first
