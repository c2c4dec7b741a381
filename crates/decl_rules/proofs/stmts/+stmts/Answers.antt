use Rattle.std.proofs.Common.{arith}
use Rattle.decl_rules.proofs.Measures.{stmt_in, group_in, catch_in}
use Rattle.decl_rules.proofs.stmts.+stmts.Goals as goal

pub walk_stmts-walk_stmt-first-requires : goal.walk_stmts-walk_stmt-first-requires
walk_stmts-walk_stmt-first-requires g t c = λ ends within.
    let inside = stmt_in c.args.xs.now c.loop-x.x-index c.x-item.result (rw (← c.as_slice-x-items.ensures) c.loop-x-test.true) (rw (← c.as_slice-x-items.ensures) c.x-item.is) in
    (rw (← c.decreases) (omega (arith, inside)), within)

pub walk_groups-walk_group-first-requires : goal.walk_groups-walk_group-first-requires
walk_groups-walk_group-first-requires g t c = λ ends within.
    let inside = group_in c.args.xs.now c.loop-x.x-index c.x-item.result (rw (← c.as_slice-x-items.ensures) c.loop-x-test.true) (rw (← c.as_slice-x-items.ensures) c.x-item.is) in
    (rw (← c.decreases) (omega (arith, inside)), within)

pub walk_catches-walk_catch-first-requires : goal.walk_catches-walk_catch-first-requires
walk_catches-walk_catch-first-requires g t c = λ ends within.
    let inside = catch_in c.args.xs.now c.loop-x.x-index c.x-item.result (rw (← c.as_slice-x-items.ensures) c.loop-x-test.true) (rw (← c.as_slice-x-items.ensures) c.x-item.is) in
    (rw (← c.decreases) (omega (arith, inside)), within)
