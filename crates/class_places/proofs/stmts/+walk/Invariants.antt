use Rattle.std.proofs.Common.{◌≡◌, drop, map}
use Rattle.std.specs.Option.{option_map}
use Rattle.java_core.specs.View.{catch_plain, catch_row, group_plain, group_row, stmt_maybe, stmt_plain, stmts_plain}
use Rattle.class_places.proofs.Heights.{catches_height, groups_height, maybe_stmt_height, stmt_height, stmts_height}
use Rattle.class_places.specs.Places as spec
use Rattle.class_places.proofs.stmts.+walk.Given as goal

abbrev pub decreases-walk : goal.decreases-walk
decreases-walk l = stmt_height (stmt_plain l.s.now)

abbrev pub decreases-maybe_walk : goal.decreases-maybe_walk
decreases-maybe_walk l = maybe_stmt_height (stmt_maybe (option_map stmt_plain l.s.now))

abbrev pub decreases-walks : goal.decreases-walks
decreases-walks l = stmts_height (stmts_plain l.stmts.now)

abbrev pub decreases-walk_groups : goal.decreases-walk_groups
decreases-walk_groups l = groups_height (group_row (map group_plain l.groups.now))

abbrev pub decreases-walk_catches : goal.decreases-walk_catches
decreases-walk_catches l = catches_height (catch_row (map catch_plain l.catches.now))

abbrev pub invariant-walks-loop-s : goal.invariant-walks-loop-s
invariant-walks-loop-s l = spec.walks l.class (stmts_plain (drop l.s-index l.stmts)) l.places ≡ spec.walks l.class (stmts_plain l.stmts) l.fn.places

abbrev pub invariant-walk_groups-loop-group : goal.invariant-walk_groups-loop-group
invariant-walk_groups-loop-group l = spec.groups l.class (group_row (map group_plain (drop l.group-index l.groups))) l.places ≡ spec.groups l.class (group_row (map group_plain l.groups)) l.fn.places

abbrev pub invariant-walk_catches-loop-catch : goal.invariant-walk_catches-loop-catch
invariant-walk_catches-loop-catch l = spec.catches l.class (catch_row (map catch_plain (drop l.catch-index l.catches))) l.places ≡ spec.catches l.class (catch_row (map catch_plain l.catches)) l.fn.places
