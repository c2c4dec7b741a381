use Rattle.std.proofs.Common.{◌*◌, ◌+◌}
use Rattle.std.specs.Option.{option_map}
use Rattle.java_tree.specs.View.{plain, plains, maybe}
use Rattle.tree_numbers.specs.Sizes as size
use Rattle.tree_numbers.proofs.Walks.{ExprsWalk}
use Rattle.tree_numbers.proofs.exprs.+exprs.Given as goal

abbrev pub decreases-number_expr : goal.decreases-number_expr
decreases-number_expr l = 2 * size.expr (plain l.e.now)

abbrev pub decreases-number_maybe : goal.decreases-number_maybe
decreases-number_maybe l = 2 * size.maybe (maybe (option_map plain l.e.now)) + 1

abbrev pub decreases-number_exprs : goal.decreases-number_exprs
decreases-number_exprs l = 2 * size.exprs (plains l.es.now) + 1

abbrev pub invariant-number_exprs-loop-i : goal.invariant-number_exprs-loop-i
invariant-number_exprs-loop-i l = ExprsWalk l.first l.initial.es l.i l.es l.next
