use Rattle.std.proofs.Common.{◌≡◌, ◌+◌, drop, map}
use Rattle.std.specs.Option.{option_map}
use Rattle.java_core.specs.View.{catch_plain, catch_row, group_plain, group_row, stmt_maybe, stmt_plain, stmts_plain}
use Rattle.definite_assignment.specs.Bodies as spec
use Rattle.definite_assignment.proofs.Heights.{catches_height, groups_height, maybe_stmt_height, stmt_height, stmts_height}
use Rattle.definite_assignment.proofs.stmts.+walk.Given as goal

abbrev pub decreases-walk : goal.decreases-walk
decreases-walk l = stmt_height (stmt_plain l.a.now)

abbrev pub decreases-walks : goal.decreases-walks
decreases-walks l = stmts_height (stmts_plain l.stmts.now)

abbrev pub decreases-branches : goal.decreases-branches
decreases-branches l = stmt_height (stmt_plain l.yes.now) + maybe_stmt_height (stmt_maybe (option_map stmt_plain l.no.now)) + 1

abbrev pub decreases-maybe_walk : goal.decreases-maybe_walk
decreases-maybe_walk l = maybe_stmt_height (stmt_maybe (option_map stmt_plain l.a.now))

abbrev pub decreases-while_loop : goal.decreases-while_loop
decreases-while_loop l = stmt_height (stmt_plain l.body.now) + 1

abbrev pub decreases-do_loop : goal.decreases-do_loop
decreases-do_loop l = stmt_height (stmt_plain l.body.now) + 1

abbrev pub decreases-for_loop : goal.decreases-for_loop
decreases-for_loop l = stmt_height (stmt_plain l.body.now) + 2

abbrev pub decreases-for_body : goal.decreases-for_body
decreases-for_body l = stmt_height (stmt_plain l.body.now) + 1

abbrev pub decreases-for_each : goal.decreases-for_each
decreases-for_each l = stmt_height (stmt_plain l.body.now) + 2

abbrev pub decreases-each_item : goal.decreases-each_item
decreases-each_item l = stmt_height (stmt_plain l.body.now) + 1

abbrev pub decreases-switch : goal.decreases-switch
decreases-switch l = groups_height (group_row (map group_plain l.groups.now)) + 1

abbrev pub decreases-walk_groups : goal.decreases-walk_groups
decreases-walk_groups l = groups_height (group_row (map group_plain l.groups.now))

abbrev pub decreases-tried : goal.decreases-tried
decreases-tried l = stmt_height (stmt_plain l.body.now) + catches_height (catch_row (map catch_plain l.catches.now)) + maybe_stmt_height (stmt_maybe (option_map stmt_plain l.last.now)) + 1

abbrev pub decreases-walk_catches : goal.decreases-walk_catches
decreases-walk_catches l = catches_height (catch_row (map catch_plain l.catches.now))

abbrev pub decreases-caught : goal.decreases-caught
decreases-caught l = stmt_height (stmt_plain l.body.now) + 1

abbrev pub decreases-finished : goal.decreases-finished
decreases-finished l = maybe_stmt_height (stmt_maybe (option_map stmt_plain l.last.now))

abbrev pub invariant-walks-loop-a : goal.invariant-walks-loop-a
invariant-walks-loop-a l = spec.walks l.w (stmts_plain (drop l.a-index l.stmts)) l.s ≡ spec.walks l.w (stmts_plain l.stmts) l.fn.s

abbrev pub invariant-walk_groups-loop-group : goal.invariant-walk_groups-loop-group
invariant-walk_groups-loop-group l = spec.groups l.w l.before (group_row (map group_plain (drop l.group-index l.groups))) l.s ≡ spec.groups l.w l.fn.before (group_row (map group_plain l.groups)) l.fn.s

abbrev pub invariant-walk_catches-loop-catch : goal.invariant-walk_catches-loop-catch
invariant-walk_catches-loop-catch l = spec.catches l.w l.before (catch_row (map catch_plain (drop l.catch-index l.catches))) l.s ≡ spec.catches l.w l.before (catch_row (map catch_plain l.catches)) l.fn.s
