use Rattle.std.specs.Option.{option_map}
use Rattle.std.proofs.Common.{◌*◌, ◌+◌, ◌≡◌, map, drop}
use Rattle.java_tree.specs.View.{stmt_plain, stmt_maybe, stmts_plain, group_plain, group_row, catch_plain, catch_row}
use Rattle.tree_numbers.specs.Sizes as size
use Rattle.node_lists.specs.Nodes as spec
use Rattle.node_lists.proofs.stmts.+stmts.Given as goal

abbrev pub decreases-in_stmt : goal.decreases-in_stmt
decreases-in_stmt l = 2 * size.stmt (stmt_plain l.x.now)

abbrev pub decreases-in_maybe_stmt : goal.decreases-in_maybe_stmt
decreases-in_maybe_stmt l = 2 * size.maybe_stmt (stmt_maybe (option_map stmt_plain l.x.now)) + 1

abbrev pub decreases-in_stmts : goal.decreases-in_stmts
decreases-in_stmts l = 2 * size.stmts (stmts_plain l.xs.now) + 1

abbrev pub decreases-in_group : goal.decreases-in_group
decreases-in_group l = 2 * size.group (group_plain l.x.now)

abbrev pub decreases-in_groups : goal.decreases-in_groups
decreases-in_groups l = 2 * size.groups (group_row (map group_plain l.xs.now)) + 1

abbrev pub decreases-in_catch : goal.decreases-in_catch
decreases-in_catch l = 2 * size.catch (catch_plain l.x.now)

abbrev pub decreases-in_catches : goal.decreases-in_catches
decreases-in_catches l = 2 * size.catches (catch_row (map catch_plain l.xs.now)) + 1

abbrev pub invariant-in_stmts-loop-x : goal.invariant-in_stmts-loop-x
invariant-in_stmts-loop-x l = spec.stmts (stmts_plain (drop l.x-index l.xs)) l.nodes ≡ spec.stmts (stmts_plain l.xs) l.fn.nodes

abbrev pub invariant-in_groups-loop-x : goal.invariant-in_groups-loop-x
invariant-in_groups-loop-x l = spec.groups (group_row (map group_plain (drop l.x-index l.xs))) l.nodes ≡ spec.groups (group_row (map group_plain l.xs)) l.fn.nodes

abbrev pub invariant-in_catches-loop-x : goal.invariant-in_catches-loop-x
invariant-in_catches-loop-x l = spec.catches (catch_row (map catch_plain (drop l.x-index l.xs))) l.nodes ≡ spec.catches (catch_row (map catch_plain l.xs)) l.fn.nodes
