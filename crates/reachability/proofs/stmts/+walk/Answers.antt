use Rattle.std.proofs.Common.{◌≡◌, map, ap, refl, ◌∙◌, arith}
use Rattle.java_core.specs.declared.stmt.CoreGroup.{out-CoreGroup}
use Rattle.java_core.specs.declared.stmt.CoreCatch.{out-CoreCatch}
use Rattle.java_core.specs.View.{catch_plain, catch_row, group_plain, group_row, stmt_plain, stmts_plain}
use Rattle.reachability.specs.Reached as spec
use Rattle.reachability.proofs.Heights.{catches_height, groups_height, stmt_height, stmts_height}
use Rattle.reachability.proofs.Statements.{catch_first, catch_sum, group_first, group_sum}
use Rattle.reachability.proofs.Steps.{lower, step}
use Rattle.reachability.proofs.stmts.+walk.Goals as goal

pub walks-walk-w-requires : goal.walks-walk-w-requires
walks-walk-w-requires t c =
    (rw (← c.decreases) (lower (λ x. stmt_height (stmt_plain x)) (λ xs. stmts_height (stmts_plain xs)) (λ x xs. refl) c.args.stmts.now c.loop-s.s-index c.s-item.result c.loop-s-test.true c.s-item.is), tt)

pub walk_groups-walks-w-requires : goal.walk_groups-walks-w-requires
walk_groups-walks-w-requires t c =
    let low = lower (λ x. stmts_height (stmts_plain (out-CoreGroup x).body)) (λ xs. groups_height (group_row (map group_plain xs))) group_sum c.args.groups.now c.loop-group.group-index c.group-item.result c.loop-group-test.true c.group-item.is in
    let same : stmts_height (stmts_plain c.as_slice.result.now) ≡ stmts_height (stmts_plain (out-CoreGroup c.group-item.result).body) = ap (λ x. stmts_height (stmts_plain x)) c.as_slice.ensures in
    (rw (← c.decreases) (omega (arith, low, same)), tt)

pub walk_groups-loop-group-preserved : goal.walk_groups-loop-group-preserved
walk_groups-loop-group-preserved t c =
    let alive = c.args.alive in
    let walked = ap (λ ss. spec.walks (stmts_plain ss) c.at.result) c.as_slice.ensures ∙ ap (spec.walks (stmts_plain (out-CoreGroup c.group-item.result).body)) c.at.ensures in
    step (λ xs w. spec.groups alive (group_row (map group_plain xs)) w) (λ x w. spec.walks (stmts_plain (out-CoreGroup x).body) (spec.at alive w)) (group_first alive)
    c.args.groups.now c.loop-group.group-index c.group-item.result c.loop-group.w c.walks-w.result _ c.loop-group-test.true c.group-item.is (c.walks-w.ensures ∙ walked) c.loop-group.invariant

pub walk_catches-walk-requires : goal.walk_catches-walk-requires
walk_catches-walk-requires t c =
    let low = lower (λ x. stmt_height (stmt_plain (out-CoreCatch x).body)) (λ xs. catches_height (catch_row (map catch_plain xs))) catch_sum c.args.catches.now c.loop-catch.catch-index c.catch-item.result c.loop-catch-test.true c.catch-item.is in
    let same : stmt_height (stmt_plain c.get.result.now) ≡ stmt_height (stmt_plain (out-CoreCatch c.catch-item.result).body) = ap (λ x. stmt_height (stmt_plain x)) c.get.ensures in
    (rw (← c.decreases) (omega (arith, low, same)), tt)

pub walk_catches-loop-catch-preserved : goal.walk_catches-loop-catch-preserved
walk_catches-loop-catch-preserved t c =
    let alive = c.args.alive in
    let walked = ap (λ s. spec.walk (stmt_plain s) c.at.result) c.get.ensures ∙ ap (spec.walk (stmt_plain (out-CoreCatch c.catch-item.result).body)) c.at.ensures in
    step (λ xs w. spec.catches alive (catch_row (map catch_plain xs)) w) (λ x w. spec.or_alive w.alive (spec.walk (stmt_plain (out-CoreCatch x).body) (spec.at alive w))) (catch_first alive)
    c.args.catches.now c.loop-catch.catch-index c.catch-item.result c.loop-catch.w c.or_alive-w.result _ c.loop-catch-test.true c.catch-item.is
    (c.or_alive-w.ensures ∙ ap (spec.or_alive c.loop-catch.w.alive) (c.walk.ensures ∙ walked)) c.loop-catch.invariant
