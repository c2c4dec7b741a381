use Rattle.std.proofs.Common.{◌≡◌, map, ap, refl, ◌∙◌, arith}
use Rattle.java_core.specs.declared.stmt.CoreGroup.{out-CoreGroup}
use Rattle.java_core.specs.declared.stmt.CoreCatch.{out-CoreCatch}
use Rattle.java_core.specs.View.{catch_plain, catch_row, group_plain, group_row, stmt_plain, stmts_plain}
use Rattle.class_places.proofs.Heights.{catches_height, groups_height, stmt_height, stmts_height}
use Rattle.class_places.proofs.Steps.{lower, pair, step}
use Rattle.class_places.specs.Places as spec
use Rattle.class_places.proofs.Statements.{catch_first, catch_sum, caught, group_first, group_sum}
use Rattle.class_places.proofs.stmts.+walk.Goals as goal

pub walks-walk-requires : goal.walks-walk-requires
walks-walk-requires t c =
    (rw (← c.decreases) (lower (λ x. stmt_height (stmt_plain x)) (λ xs. stmts_height (stmts_plain xs)) (λ x xs. refl) c.args.stmts.now c.loop-s.s-index c.s-item.result c.loop-s-test.true c.s-item.is), tt)

pub walk_groups-walks-requires : goal.walk_groups-walks-requires
walk_groups-walks-requires t c =
    let low = lower (λ x. stmts_height (stmts_plain (out-CoreGroup x).body)) (λ xs. groups_height (group_row (map group_plain xs))) group_sum c.args.groups.now c.loop-group.group-index c.group-item.result c.loop-group-test.true c.group-item.is in
    let same : stmts_height (stmts_plain c.as_slice.result.now) ≡ stmts_height (stmts_plain (out-CoreGroup c.group-item.result).body) = ap (λ x. stmts_height (stmts_plain x)) c.as_slice.ensures in
    (rw (← c.decreases) (omega (arith, low, same)), tt)

pub walk_groups-loop-group-preserved : goal.walk_groups-loop-group-preserved
walk_groups-loop-group-preserved t c =
    step (λ xs places. spec.groups c.args.class (group_row (map group_plain xs)) places) (λ x places. spec.walks c.args.class (stmts_plain (out-CoreGroup x).body) places) (group_first c.args.class)
    c.args.groups.now c.loop-group.group-index c.group-item.result c.loop-group.places c.in_ok-places.places _ c.loop-group-test.true c.group-item.is
    (c.in_ok-places.ensures ∙ ap (λ xs. spec.walks c.args.class (stmts_plain xs) c.loop-group.places) c.as_slice.ensures) c.loop-group.invariant

pub walk_catches-walk-requires : goal.walk_catches-walk-requires
walk_catches-walk-requires t c =
    let low = lower (λ x. stmt_height (stmt_plain (out-CoreCatch x).body)) (λ xs. catches_height (catch_row (map catch_plain xs))) catch_sum c.args.catches.now c.loop-catch.catch-index c.catch-item.result c.loop-catch-test.true c.catch-item.is in
    let same : stmt_height (stmt_plain c.get.result.now) ≡ stmt_height (stmt_plain (out-CoreCatch c.catch-item.result).body) = ap (λ x. stmt_height (stmt_plain x)) c.get.ensures in
    (rw (← c.decreases) (omega (arith, low, same)), tt)

pub walk_catches-loop-catch-preserved : goal.walk_catches-loop-catch-preserved
walk_catches-loop-catch-preserved t c =
    step (λ xs places. spec.catches c.args.class (catch_row (map catch_plain xs)) places) (caught c.args.class) (catch_first c.args.class)
    c.args.catches.now c.loop-catch.catch-index c.catch-item.result c.loop-catch.places c.in_ok-places.places _ c.loop-catch-test.true c.catch-item.is
    (c.in_ok-places.ensures ∙ pair (λ x places. spec.walk c.args.class (stmt_plain x) places) _ _ _ _ c.get.ensures c.in_ok-caught.ensures) c.loop-catch.invariant
