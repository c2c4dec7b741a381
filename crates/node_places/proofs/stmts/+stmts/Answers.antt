use Rattle.std.proofs.Common.{map, refl, arith}
use Rattle.java_tree.specs.View.{stmt_plain, stmts_plain, group_plain, group_row, catch_plain, catch_row}
use Rattle.tree_numbers.specs.Sizes as size
use Rattle.node_places.specs.Seek as seek
use Rattle.node_places.proofs.Turns.{passed, found, size_in}
use Rattle.node_places.proofs.stmts.+stmts.Goals as goal

pub in_stmts-in_stmt-requires : goal.in_stmts-in_stmt-requires
in_stmts-in_stmt-requires t c =
    let inside = size_in (λ xs. size.stmts (stmts_plain xs)) (λ x. size.stmt (stmt_plain x)) c.args.xs.now c.loop-x.x-index c.x-item.result (λ x xs. refl) (rw (← c.as_slice-x-items.ensures) c.loop-x-test.true) (rw (← c.as_slice-x-items.ensures) c.x-item.is) in
    (rw (← c.decreases) (omega (arith, inside)), tt)

pub in_stmts-returns-in_err-in_stmt : goal.in_stmts-returns-in_err-in_stmt
in_stmts-returns-in_err-in_stmt t c =
    rw c.from_residual.ensures
    (found (λ xs. seek.stmts c.args.number (stmts_plain xs)) (λ x. seek.stmt c.args.number (stmt_plain x)) (λ x xs. refl) c.args.xs.now c.loop-x.x-index c.x-item.result c.in_err-in_stmt.field-0.0
    (rw (← c.as_slice-x-items.ensures) c.loop-x-test.true) (rw (← c.as_slice-x-items.ensures) c.x-item.is) (rw c.in_err-in_stmt.was at c.in_stmt.ensures) c.loop-x.invariant)

pub in_stmts-loop-x-preserved : goal.in_stmts-loop-x-preserved
in_stmts-loop-x-preserved t c =
    passed (λ xs. seek.stmts c.args.number (stmts_plain xs)) (λ x. seek.stmt c.args.number (stmt_plain x)) (λ x xs. refl) c.args.xs.now c.loop-x.x-index c.x-item.result
    (rw (← c.as_slice-x-items.ensures) c.loop-x-test.true) (rw (← c.as_slice-x-items.ensures) c.x-item.is) (rw c.in_ok-in_stmt.was at c.in_stmt.ensures) c.loop-x.invariant

pub in_groups-in_group-requires : goal.in_groups-in_group-requires
in_groups-in_group-requires t c =
    let inside = size_in (λ xs. size.groups (group_row (map group_plain xs))) (λ x. size.group (group_plain x)) c.args.xs.now c.loop-x.x-index c.x-item.result (λ x xs. refl) (rw (← c.as_slice-x-items.ensures) c.loop-x-test.true) (rw (← c.as_slice-x-items.ensures) c.x-item.is) in
    (rw (← c.decreases) (omega (arith, inside)), tt)

pub in_groups-returns-in_err-in_group : goal.in_groups-returns-in_err-in_group
in_groups-returns-in_err-in_group t c =
    rw c.from_residual.ensures
    (found (λ xs. seek.groups c.args.number (group_row (map group_plain xs))) (λ x. seek.group c.args.number (group_plain x)) (λ x xs. refl) c.args.xs.now c.loop-x.x-index c.x-item.result c.in_err-in_group.field-0.0
    (rw (← c.as_slice-x-items.ensures) c.loop-x-test.true) (rw (← c.as_slice-x-items.ensures) c.x-item.is) (rw c.in_err-in_group.was at c.in_group.ensures) c.loop-x.invariant)

pub in_groups-loop-x-preserved : goal.in_groups-loop-x-preserved
in_groups-loop-x-preserved t c =
    passed (λ xs. seek.groups c.args.number (group_row (map group_plain xs))) (λ x. seek.group c.args.number (group_plain x)) (λ x xs. refl) c.args.xs.now c.loop-x.x-index c.x-item.result
    (rw (← c.as_slice-x-items.ensures) c.loop-x-test.true) (rw (← c.as_slice-x-items.ensures) c.x-item.is) (rw c.in_ok-in_group.was at c.in_group.ensures) c.loop-x.invariant

pub in_catches-in_catch-requires : goal.in_catches-in_catch-requires
in_catches-in_catch-requires t c =
    let inside = size_in (λ xs. size.catches (catch_row (map catch_plain xs))) (λ x. size.catch (catch_plain x)) c.args.xs.now c.loop-x.x-index c.x-item.result (λ x xs. refl) (rw (← c.as_slice-x-items.ensures) c.loop-x-test.true) (rw (← c.as_slice-x-items.ensures) c.x-item.is) in
    (rw (← c.decreases) (omega (arith, inside)), tt)

pub in_catches-returns-in_err-in_catch : goal.in_catches-returns-in_err-in_catch
in_catches-returns-in_err-in_catch t c =
    rw c.from_residual.ensures
    (found (λ xs. seek.catches c.args.number (catch_row (map catch_plain xs))) (λ x. seek.catch c.args.number (catch_plain x)) (λ x xs. refl) c.args.xs.now c.loop-x.x-index c.x-item.result c.in_err-in_catch.field-0.0
    (rw (← c.as_slice-x-items.ensures) c.loop-x-test.true) (rw (← c.as_slice-x-items.ensures) c.x-item.is) (rw c.in_err-in_catch.was at c.in_catch.ensures) c.loop-x.invariant)

pub in_catches-loop-x-preserved : goal.in_catches-loop-x-preserved
in_catches-loop-x-preserved t c =
    passed (λ xs. seek.catches c.args.number (catch_row (map catch_plain xs))) (λ x. seek.catch c.args.number (catch_plain x)) (λ x xs. refl) c.args.xs.now c.loop-x.x-index c.x-item.result
    (rw (← c.as_slice-x-items.ensures) c.loop-x-test.true) (rw (← c.as_slice-x-items.ensures) c.x-item.is) (rw c.in_ok-in_catch.was at c.in_catch.ensures) c.loop-x.invariant
