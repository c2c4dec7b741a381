use Rattle.std.proofs.Common.{false, arith}
use Rattle.overrides.specs.Rounds.{IsClosed}
use Rattle.overrides.proofs.Gains.{pass_adds, pass_begins, pass_stays, step_none}
use Rattle.overrides.proofs.closed.close_rows.Goals as goal
use Rattle.overrides.proofs.closed.close_rows.Goals.{then-branch, else-branch}

pub loop-m-init : goal.loop-m-init
loop-m-init c = pass_begins c.args.w.now c.args.table.now (IsClosed c.args.w.now) c.args.table.now false c.requires.table (step_none c.args.table.now)

pub loop-m-preserved : goal.loop-m-preserved
loop-m-preserved c =
    let w = c.args.w.now in
    let start = c.args.table.now in
    let old = c.loop-m.table in
    let new = c.close_row.new.table in
    let pass = c.loop-m.invariant in
    let row = c.in_ok-close_row.ensures in
    elim c.if-branch.branch [
      | then-branch v ↦ pass_adds w start (IsClosed w) old c.loop-m.added c.loop-m.m pass new c.in_ok-close_row.field-0 c.if-branch.added row.table row.step v.if-branch.true v.added-is
      | else-branch v ↦ pass_stays w start (IsClosed w) old c.loop-m.added c.loop-m.m pass new c.in_ok-close_row.field-0 c.if-branch.added row.table row.step row.closed v.if-branch.false v.added-is
    ]

pub returns-clause-table : goal.returns-clause-table
returns-clause-table c = c.loop-m.invariant.derived

pub returns-clause-step : goal.returns-clause-step
returns-clause-step c = c.loop-m.invariant.step

pub returns-clause-closed : goal.returns-clause-closed
returns-clause-closed c none m lt = c.loop-m.invariant.done none m (omega (arith, lt, c.loop-m-test.false))
