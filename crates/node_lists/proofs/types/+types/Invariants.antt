use Rattle.std.proofs.Common.{◌*◌, ◌+◌, drop, map, ◌≡◌}
use Rattle.java_tree.specs.View as view
use Rattle.java_tree.specs.View.{type_plain}
use Rattle.tree_numbers.specs.Sizes as size
use Rattle.node_lists.specs.Nodes as spec
use Rattle.node_lists.proofs.types.+types.Given as goal

abbrev pub decreases-in_type : goal.decreases-in_type
decreases-in_type l = 2 * size.type (type_plain l.x.now)

abbrev pub decreases-in_types : goal.decreases-in_types
decreases-in_types l = 2 * size.types (view.types (map type_plain l.xs.now)) + 1

abbrev pub invariant-in_types-loop-x : goal.invariant-in_types-loop-x
invariant-in_types-loop-x l = spec.types (view.types (map type_plain (drop l.x-index l.xs))) l.nodes ≡ spec.types (view.types (map type_plain l.xs)) l.fn.nodes
