use Rattle.std.specs.Option.{option_map}
use Rattle.std.proofs.Common.{◌*◌, ◌+◌, map}
use Rattle.java_tree.specs.View.{stmt_plain, stmt_maybe, stmts_plain, group_plain, group_row, catch_plain, catch_row}
use Rattle.tree_numbers.specs.Sizes as size
use Rattle.tree_numbers.proofs.Walks.{StmtsWalk, GroupsWalk, CatchesWalk}
use Rattle.tree_numbers.proofs.stmts.+stmts.Given as goal

abbrev pub decreases-number_stmt : goal.decreases-number_stmt
decreases-number_stmt l = 2 * size.stmt (stmt_plain l.x.now)

abbrev pub decreases-number_maybe_stmt : goal.decreases-number_maybe_stmt
decreases-number_maybe_stmt l = 2 * size.maybe_stmt (stmt_maybe (option_map stmt_plain l.x.now)) + 1

abbrev pub decreases-number_stmts : goal.decreases-number_stmts
decreases-number_stmts l = 2 * size.stmts (stmts_plain l.xs.now) + 1

abbrev pub decreases-number_group : goal.decreases-number_group
decreases-number_group l = 2 * size.group (group_plain l.x.now)

abbrev pub decreases-number_groups : goal.decreases-number_groups
decreases-number_groups l = 2 * size.groups (group_row (map group_plain l.xs.now)) + 1

abbrev pub decreases-number_catch : goal.decreases-number_catch
decreases-number_catch l = 2 * size.catch (catch_plain l.x.now)

abbrev pub decreases-number_catches : goal.decreases-number_catches
decreases-number_catches l = 2 * size.catches (catch_row (map catch_plain l.xs.now)) + 1

abbrev pub invariant-number_stmts-loop-i : goal.invariant-number_stmts-loop-i
invariant-number_stmts-loop-i l = StmtsWalk l.first l.initial.xs l.i l.xs l.next

abbrev pub invariant-number_groups-loop-i : goal.invariant-number_groups-loop-i
invariant-number_groups-loop-i l = GroupsWalk l.first l.initial.xs l.i l.xs l.next

abbrev pub invariant-number_catches-loop-i : goal.invariant-number_catches-loop-i
invariant-number_catches-loop-i l = CatchesWalk l.first l.initial.xs l.i l.xs l.next
