use Rattle.std.proofs.Common.{◌+◌, map}
use Rattle.std.specs.Option.{option_map}
use Rattle.java_core.specs.View.{catch_plain, catch_row, group_plain, group_row, stmt_maybe, stmt_plain, stmts_plain}
use Rattle.program_maps.specs.Trees.{CatchesAlike, GroupsAlike, StmtsAlike}
use Rattle.alike_trees.specs.Compared.{pair}
use Rattle.alike_trees.proofs.Heights.{catch_height, catches_height, group_height, groups_height, maybe_stmt_height, stmt_height, stmts_height}
use Rattle.alike_trees.proofs.Walks.{SoFar}
use Rattle.alike_trees.proofs.stmts.+stmt_alike.Given as goal

abbrev pub decreases-stmt_alike : goal.decreases-stmt_alike
decreases-stmt_alike l = stmt_height (stmt_plain l.old.now)

abbrev pub decreases-branches_alike : goal.decreases-branches_alike
decreases-branches_alike l = stmt_height (stmt_plain l.yes.now) + maybe_stmt_height (stmt_maybe (option_map stmt_plain l.no.now)) + 1

abbrev pub decreases-for_alike : goal.decreases-for_alike
decreases-for_alike l = stmts_height (stmts_plain l.init.now) + stmt_height (stmt_plain l.body.now) + 1

abbrev pub decreases-try_alike : goal.decreases-try_alike
decreases-try_alike l =
    stmt_height (stmt_plain l.body.now) + catches_height (catch_row (map catch_plain l.catches.now)) + maybe_stmt_height (stmt_maybe (option_map stmt_plain l.last.now)) + 1

abbrev pub decreases-maybe_stmt_alike : goal.decreases-maybe_stmt_alike
decreases-maybe_stmt_alike l = maybe_stmt_height (stmt_maybe (option_map stmt_plain l.old.now))

abbrev pub decreases-stmts_alike : goal.decreases-stmts_alike
decreases-stmts_alike l = stmts_height (stmts_plain l.old.now)

abbrev pub decreases-groups_alike : goal.decreases-groups_alike
decreases-groups_alike l = groups_height (group_row (map group_plain l.old.now))

abbrev pub decreases-group_alike : goal.decreases-group_alike
decreases-group_alike l = group_height (group_plain l.old.now)

abbrev pub decreases-catches_alike : goal.decreases-catches_alike
decreases-catches_alike l = catches_height (catch_row (map catch_plain l.old.now))

abbrev pub decreases-catch_alike : goal.decreases-catch_alike
decreases-catch_alike l = catch_height (catch_plain l.old.now)

abbrev pub invariant-stmts_alike-loop-at : goal.invariant-stmts_alike-loop-at
invariant-stmts_alike-loop-at l = SoFar (λ xs ys. StmtsAlike (pair l.sides) (stmts_plain xs) (stmts_plain ys)) l.at l.old l.new

abbrev pub invariant-groups_alike-loop-at : goal.invariant-groups_alike-loop-at
invariant-groups_alike-loop-at l = SoFar (λ xs ys. GroupsAlike (pair l.sides) (group_row (map group_plain xs)) (group_row (map group_plain ys))) l.at l.old l.new

abbrev pub invariant-catches_alike-loop-at : goal.invariant-catches_alike-loop-at
invariant-catches_alike-loop-at l = SoFar (λ xs ys. CatchesAlike (pair l.sides) (catch_row (map catch_plain xs)) (catch_row (map catch_plain ys))) l.at l.old l.new
