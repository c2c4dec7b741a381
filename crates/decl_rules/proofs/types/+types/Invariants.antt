use Rattle.std.proofs.Common.{Bool, map, ◌*◌, ◌+◌, drop, ◌≡◌}
use Rattle.java_tree.specs.View as view
use Rattle.java_tree.specs.View.{type_plain}
use Rattle.tree_numbers.specs.Sizes as size
use Rattle.java_tree.specs.declared.tree.Name.{Name}
use Rattle.decl_rules.specs.Generic.{Told}
use Rattle.decl_rules.specs.Walk as spec
use Rattle.decl_rules.proofs.types.+types.Given as goal

abbrev pub decreases-walk_type : goal.decreases-walk_type
decreases-walk_type g l = 2 * size.type (type_plain l.x.now)

abbrev pub decreases-walk_types : goal.decreases-walk_types
decreases-walk_types g l = 2 * size.types (view.types (map type_plain l.xs.now)) + 1

abbrev pub invariant-walk_types-loop-x : goal.invariant-walk_types-loop-x
invariant-walk_types-loop-x g l = (generic : Name → Bool) → Told (g.G.GenericNames.answers l.generics.names.now) generic → spec.types (spec.is_nested generic l.generics.vars.now) (view.types (map type_plain (drop l.x-index l.xs))) l.first ≡ spec.types (spec.is_nested generic l.generics.vars.now) (view.types (map type_plain l.xs)) l.fn.first
