use Rattle.std.specs.Option.{option_map}
use Rattle.std.proofs.Common.{◌≡◌, drop, map}
use Rattle.java_core.specs.View.{catch_plain, catch_row, group_plain, group_row, stmt_maybe, stmt_plain, stmts_plain}
use Rattle.class_places.proofs.Heights.{catches_height, groups_height, maybe_stmt_height, stmt_height, stmts_height}
use Rattle.extract_constraints.specs.Links as li
use Rattle.extract_constraints.proofs.Each.{Each}
use Rattle.extract_constraints.proofs.stmts.+walk.Given as goal

abbrev pub decreases-walk : goal.decreases-walk
decreases-walk l = stmt_height (stmt_plain l.stmt.now)

abbrev pub decreases-maybe_walk : goal.decreases-maybe_walk
decreases-maybe_walk l = maybe_stmt_height (stmt_maybe (option_map stmt_plain l.stmt.now))

abbrev pub decreases-walks : goal.decreases-walks
decreases-walks l = stmts_height (stmts_plain l.stmts.now)

abbrev pub decreases-walk_groups : goal.decreases-walk_groups
decreases-walk_groups l = groups_height (group_row (map group_plain l.groups.now))

abbrev pub decreases-walk_catches : goal.decreases-walk_catches
decreases-walk_catches l = catches_height (catch_row (map catch_plain l.catches.now))

abbrev pub invariant-walks-loop-stmt : goal.invariant-walks-loop-stmt
invariant-walks-loop-stmt l = Each l.at (λ k a. li.walks k a (stmts_plain (drop l.stmt-index l.stmts)) l.s ≡ li.walks k a (stmts_plain l.stmts) l.fn.s)

abbrev pub invariant-walk_groups-loop-group : goal.invariant-walk_groups-loop-group
invariant-walk_groups-loop-group l = Each l.at (λ k a. li.groups k a (group_row (map group_plain (drop l.group-index l.groups))) l.s ≡ li.groups k a (group_row (map group_plain l.groups)) l.fn.s)

abbrev pub invariant-walk_catches-loop-catch : goal.invariant-walk_catches-loop-catch
invariant-walk_catches-loop-catch l = Each l.at (λ k a. li.catches k a (catch_row (map catch_plain (drop l.catch-index l.catches))) l.s ≡ li.catches k a (catch_row (map catch_plain l.catches)) l.fn.s)
