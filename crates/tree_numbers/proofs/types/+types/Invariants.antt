use Rattle.std.proofs.Common.{map, ◌*◌, ◌+◌}
use Rattle.java_tree.specs.View as view
use Rattle.java_tree.specs.View.{type_plain}
use Rattle.tree_numbers.specs.Numbers as numbers
use Rattle.tree_numbers.specs.Sizes as size
use Rattle.tree_numbers.proofs.Lists.{Walk}
use Rattle.tree_numbers.proofs.types.+types.Given as goal

abbrev pub decreases-number_type : goal.decreases-number_type
decreases-number_type l = 2 * size.type (type_plain l.x.now)

abbrev pub decreases-number_types : goal.decreases-number_types
decreases-number_types l = 2 * size.types (view.types (map type_plain l.xs.now)) + 1

abbrev pub invariant-number_types-loop-i : goal.invariant-number_types-loop-i
invariant-number_types-loop-i l = Walk type_plain (λ x. numbers.type (type_plain x)) (λ x. size.type (type_plain x)) l.first l.initial.xs l.i l.xs l.next
