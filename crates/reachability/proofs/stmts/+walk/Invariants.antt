use Rattle.std.proofs.Common.{◌≡◌, drop, map}
use Rattle.std.specs.Option.{option_map}
use Rattle.java_core.specs.View.{catch_plain, catch_row, group_plain, group_row, stmt_maybe, stmt_plain, stmts_plain}
use Rattle.reachability.specs.Reached as spec
use Rattle.reachability.proofs.Heights.{catches_height, groups_height, maybe_stmt_height, stmt_height, stmts_height}
use Rattle.reachability.proofs.stmts.+walk.Given as goal

abbrev pub decreases-walk : goal.decreases-walk
decreases-walk l = stmt_height (stmt_plain l.s.now)

abbrev pub decreases-walks : goal.decreases-walks
decreases-walks l = stmts_height (stmts_plain l.stmts.now)

abbrev pub decreases-otherwise : goal.decreases-otherwise
decreases-otherwise l = maybe_stmt_height (stmt_maybe (option_map stmt_plain l.no.now))

abbrev pub decreases-walk_groups : goal.decreases-walk_groups
decreases-walk_groups l = groups_height (group_row (map group_plain l.groups.now))

abbrev pub decreases-walk_catches : goal.decreases-walk_catches
decreases-walk_catches l = catches_height (catch_row (map catch_plain l.catches.now))

abbrev pub decreases-finished : goal.decreases-finished
decreases-finished l = maybe_stmt_height (stmt_maybe (option_map stmt_plain l.last.now))

abbrev pub invariant-walks-loop-s : goal.invariant-walks-loop-s
invariant-walks-loop-s l = spec.walks (stmts_plain (drop l.s-index l.stmts)) l.w ≡ spec.walks (stmts_plain l.stmts) l.fn.w

abbrev pub invariant-walk_groups-loop-group : goal.invariant-walk_groups-loop-group
invariant-walk_groups-loop-group l = spec.groups l.alive (group_row (map group_plain (drop l.group-index l.groups))) l.w ≡ spec.groups l.alive (group_row (map group_plain l.groups)) l.fn.w

abbrev pub invariant-walk_catches-loop-catch : goal.invariant-walk_catches-loop-catch
invariant-walk_catches-loop-catch l = spec.catches l.alive (catch_row (map catch_plain (drop l.catch-index l.catches))) l.w ≡ spec.catches l.alive (catch_row (map catch_plain l.catches)) l.fn.w
