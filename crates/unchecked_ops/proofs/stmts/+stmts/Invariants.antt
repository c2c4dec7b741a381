use Rattle.std.proofs.Common.{◌≡◌, ◌++◌, Bool, drop, map}
use Rattle.std.specs.Option.{option_map}
use Rattle.class_world.specs.declared.world.JavaType.{JavaType}
use Rattle.java_core.specs.View.{catch_plain, catch_row, group_plain, group_row, stmt_maybe, stmt_plain, stmts_plain}
use Rattle.type_facts.specs.Facts.{AreFacts, Facts}
use Rattle.unchecked_ops.specs.Casting.{AreCasts}
use Rattle.unchecked_ops.specs.Operations as spec
use Rattle.unchecked_ops.proofs.Heights.{catches_height, groups_height, maybe_stmt_height, stmt_height, stmts_height}
use Rattle.unchecked_ops.proofs.stmts.+stmts.Given as goal

abbrev pub decreases-stmt_ops : goal.decreases-stmt_ops
decreases-stmt_ops l = stmt_height (stmt_plain l.s.now)

abbrev pub decreases-maybe_stmt : goal.decreases-maybe_stmt
decreases-maybe_stmt l = maybe_stmt_height (stmt_maybe (option_map stmt_plain l.s.now))

abbrev pub decreases-stmts_ops : goal.decreases-stmts_ops
decreases-stmts_ops l = stmts_height (stmts_plain l.stmts.now)

abbrev pub decreases-group_ops : goal.decreases-group_ops
decreases-group_ops l = groups_height (group_row (map group_plain l.groups.now))

abbrev pub decreases-catch_ops : goal.decreases-catch_ops
decreases-catch_ops l = catches_height (catch_row (map catch_plain l.catches.now))

abbrev pub invariant-stmts_ops-loop-s : goal.invariant-stmts_ops-loop-s
invariant-stmts_ops-loop-s l = (f : Facts) → AreFacts l.q f → (u : JavaType → JavaType → Bool) → AreCasts l.q.world.now u
    → l.out ++ spec.stmts_ops f u l.own l.above l.given (stmts_plain (drop l.s-index l.stmts)) ≡ l.fn.out ++ spec.stmts_ops f u l.own l.above l.given (stmts_plain l.stmts)

abbrev pub invariant-group_ops-loop-group : goal.invariant-group_ops-loop-group
invariant-group_ops-loop-group l = (f : Facts) → AreFacts l.q f → (u : JavaType → JavaType → Bool) → AreCasts l.q.world.now u
    → l.out ++ spec.group_ops f u l.own l.above l.given (group_row (map group_plain (drop l.group-index l.groups)))
    ≡ l.fn.out ++ spec.group_ops f u l.own l.above l.given (group_row (map group_plain l.groups))

abbrev pub invariant-catch_ops-loop-catch : goal.invariant-catch_ops-loop-catch
invariant-catch_ops-loop-catch l = (f : Facts) → AreFacts l.q f → (u : JavaType → JavaType → Bool) → AreCasts l.q.world.now u
    → l.out ++ spec.catch_ops f u l.own l.above l.given (catch_row (map catch_plain (drop l.catch-index l.catches)))
    ≡ l.fn.out ++ spec.catch_ops f u l.own l.above l.given (catch_row (map catch_plain l.catches))
