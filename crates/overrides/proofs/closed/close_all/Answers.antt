use Rattle.std.proofs.Common.{arith}
use Rattle.overrides.proofs.Chains.{closed_holds}
use Rattle.overrides.proofs.Gains.{same_size}
use Rattle.overrides.proofs.Gaps.{fewer_left}
use Rattle.overrides.proofs.closed.close_all.Goals as goal

pub returns-then-not-branch : goal.returns-then-not-branch
returns-then-not-branch c =
    let rows = c.in_ok-close_rows.ensures in
    closed_holds c.args.w.now c.close_rows.new.table (λ m t edge. rows.step.grows m t (c.passes.invariant.at_once m t edge))
    (λ m lt. rows.closed c.if-not-branch.true m (omega (arith, lt, c.requires.count))) rows.table

pub passes-smaller : goal.passes-smaller
passes-smaller c =
    let rows = c.in_ok-close_rows.ensures in
    fewer_left c.passes.table c.close_rows.new.table (same_size c.passes.invariant.derived.size rows.table.size) rows.step.grows (rows.step.gains c.if-not-branch.false)

pub passes-preserved : goal.passes-preserved
passes-preserved c =
    let rows = c.in_ok-close_rows.ensures in
    record { derived = rows.table; at_once = λ m t edge. rows.step.grows m t (c.passes.invariant.at_once m t edge) }
