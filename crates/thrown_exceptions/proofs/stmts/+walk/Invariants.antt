use Rattle.std.proofs.Common.{◌≡◌, ◌+◌, Bool, drop, map}
use Rattle.std.specs.Option.{option_map}
use Rattle.class_world.specs.declared.world.JavaType.{JavaType}
use Rattle.java_core.specs.View.{catch_plain, catch_row, group_plain, group_row, stmt_maybe, stmt_plain, stmts_plain}
use Rattle.thrown_exceptions.specs.Thrown as spec
use Rattle.thrown_exceptions.specs.Thrown.{IsOrder}
use Rattle.thrown_exceptions.proofs.Heights.{catches_height, groups_height, maybe_stmt_height, stmt_height, stmts_height}
use Rattle.thrown_exceptions.proofs.stmts.+walk.Given as goal

abbrev pub decreases-walk : goal.decreases-walk
decreases-walk l = stmt_height (stmt_plain l.s.now)

abbrev pub decreases-maybe_walk : goal.decreases-maybe_walk
decreases-maybe_walk l = maybe_stmt_height (stmt_maybe (option_map stmt_plain l.s.now))

abbrev pub decreases-walks : goal.decreases-walks
decreases-walks l = stmts_height (stmts_plain l.stmts.now)

abbrev pub decreases-walk_groups : goal.decreases-walk_groups
decreases-walk_groups l = groups_height (group_row (map group_plain l.groups.now))

abbrev pub decreases-walk_catches : goal.decreases-walk_catches
decreases-walk_catches l = catches_height (catch_row (map catch_plain l.catches.now))

abbrev pub decreases-walk_try : goal.decreases-walk_try
decreases-walk_try l = stmt_height (stmt_plain l.body.now) + catches_height (catch_row (map catch_plain l.catches.now)) + maybe_stmt_height (stmt_maybe (option_map stmt_plain l.last.now)) + 2

abbrev pub decreases-walk_parts : goal.decreases-walk_parts
decreases-walk_parts l = stmt_height (stmt_plain l.body.now) + catches_height (catch_row (map catch_plain l.catches.now)) + maybe_stmt_height (stmt_maybe (option_map stmt_plain l.last.now)) + 1

abbrev pub decreases-finished : goal.decreases-finished
decreases-finished l = maybe_stmt_height (stmt_maybe (option_map stmt_plain l.last.now))

abbrev pub invariant-walks-loop-s : goal.invariant-walks-loop-s
invariant-walks-loop-s l = (below : JavaType → JavaType → Bool) → IsOrder l.w below → spec.walks l.w below (stmts_plain (drop l.s-index l.stmts)) l.state ≡ spec.walks l.w below (stmts_plain l.stmts) l.fn.state

abbrev pub invariant-walk_groups-loop-group : goal.invariant-walk_groups-loop-group
invariant-walk_groups-loop-group l = (below : JavaType → JavaType → Bool) → IsOrder l.w below → spec.groups l.w below (group_row (map group_plain (drop l.group-index l.groups))) l.state ≡ spec.groups l.w below (group_row (map group_plain l.groups)) l.fn.state

abbrev pub invariant-walk_catches-loop-catch : goal.invariant-walk_catches-loop-catch
invariant-walk_catches-loop-catch l = (below : JavaType → JavaType → Bool) → IsOrder l.w below → spec.catches l.w below (catch_row (map catch_plain (drop l.catch-index l.catches))) l.state ≡ spec.catches l.w below (catch_row (map catch_plain l.catches)) l.fn.state
