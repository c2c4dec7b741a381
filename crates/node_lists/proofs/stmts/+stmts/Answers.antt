use Rattle.std.proofs.Common.{map, refl, arith}
use Rattle.java_tree.specs.View.{stmt_plain, stmts_plain, group_plain, group_row, catch_plain, catch_row}
use Rattle.tree_numbers.specs.Sizes as size
use Rattle.node_places.proofs.Turns.{size_in}
use Rattle.node_lists.proofs.stmts.+stmts.Goals as goal

pub in_stmts-in_stmt-requires : goal.in_stmts-in_stmt-requires
in_stmts-in_stmt-requires t c =
    let inside = size_in (λ xs. size.stmts (stmts_plain xs)) (λ x. size.stmt (stmt_plain x)) c.args.xs.now c.loop-x.x-index c.x-item.result (λ x xs. refl) (rw (← c.as_slice-x-items.ensures) c.loop-x-test.true) (rw (← c.as_slice-x-items.ensures) c.x-item.is) in
    (rw (← c.decreases) (omega (arith, inside)), tt)

pub in_groups-in_group-requires : goal.in_groups-in_group-requires
in_groups-in_group-requires t c =
    let inside = size_in (λ xs. size.groups (group_row (map group_plain xs))) (λ x. size.group (group_plain x)) c.args.xs.now c.loop-x.x-index c.x-item.result (λ x xs. refl) (rw (← c.as_slice-x-items.ensures) c.loop-x-test.true) (rw (← c.as_slice-x-items.ensures) c.x-item.is) in
    (rw (← c.decreases) (omega (arith, inside)), tt)

pub in_catches-in_catch-requires : goal.in_catches-in_catch-requires
in_catches-in_catch-requires t c =
    let inside = size_in (λ xs. size.catches (catch_row (map catch_plain xs))) (λ x. size.catch (catch_plain x)) c.args.xs.now c.loop-x.x-index c.x-item.result (λ x xs. refl) (rw (← c.as_slice-x-items.ensures) c.loop-x-test.true) (rw (← c.as_slice-x-items.ensures) c.x-item.is) in
    (rw (← c.decreases) (omega (arith, inside)), tt)
