use Rattle.class_world.specs.Overriding.{Overriding}
use Rattle.overrides.proofs.Places.{ok_both}
use Rattle.overrides.proofs.Gains.{derived_row, derived_key, added_derived}
use Rattle.overrides.proofs.rounds.add_third.Goals as goal
use Rattle.overrides.proofs.rounds.add_third.Goals.{Else-not-branch}

up : (c : Else-not-branch) → Overriding c.args.w.now c.args.m c.args.k
up c = c.requires.through c.if-m-k.false (c.in_ok-agree_below.ensures.0 c.if-not-branch.false)

pub add-requires-clause-row : goal.add-requires-clause-row
add-requires-clause-row c = derived_row c.args.w.now c.args.table.now c.args.m c.args.k c.requires.table (up ((goal.at.add-requires-clause-row c).Else-not-branch))

pub add-requires-clause-key : goal.add-requires-clause-key
add-requires-clause-key c = derived_key c.args.w.now c.args.table.now c.args.m c.args.k c.requires.table (up ((goal.at.add-requires-clause-key c).Else-not-branch))

pub returns-clause-table : goal.returns-clause-table
returns-clause-table c =
    ok_both c.add.result
    (λ size only. added_derived c.args.w.now c.args.table.now c.add.new.table c.args.m c.args.k c.requires.table size only (up ((goal.at.returns-clause-table c).Else-not-branch)))
    c.add.ensures.size c.add.ensures.only
