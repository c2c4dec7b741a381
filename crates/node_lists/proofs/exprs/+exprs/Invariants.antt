use Rattle.std.proofs.Common.{◌*◌, ◌+◌, drop, ◌≡◌}
use Rattle.std.specs.Option.{option_map}
use Rattle.java_tree.specs.View.{plain, plains, maybe}
use Rattle.tree_numbers.specs.Sizes as size
use Rattle.node_lists.specs.Nodes as spec
use Rattle.node_lists.proofs.exprs.+exprs.Given as goal

abbrev pub decreases-in_expr : goal.decreases-in_expr
decreases-in_expr l = 2 * size.expr (plain l.e.now)

abbrev pub decreases-in_maybe : goal.decreases-in_maybe
decreases-in_maybe l = 2 * size.maybe (maybe (option_map plain l.e.now)) + 1

abbrev pub decreases-in_exprs : goal.decreases-in_exprs
decreases-in_exprs l = 2 * size.exprs (plains l.es.now) + 1

abbrev pub invariant-in_exprs-loop-e : goal.invariant-in_exprs-loop-e
invariant-in_exprs-loop-e l = spec.exprs (plains (drop l.e-index l.es)) l.nodes ≡ spec.exprs (plains l.es) l.fn.nodes
