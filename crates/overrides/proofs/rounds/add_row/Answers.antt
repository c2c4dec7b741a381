use Rattle.std.proofs.Common.{arith}
use Rattle.shared_maps.proofs.Kept.{keeps_itself}
use Rattle.class_world.specs.Overriding as by
use Rattle.overrides.proofs.Belows.{at_once_within}
use Rattle.overrides.proofs.Gains.{derived_row, derived_key, step_none, united_derived, united_joined, united_step, whole_joined}
use Rattle.overrides.proofs.rounds.add_row.Goals as goal

pub unite-requires-clause-row : goal.unite-requires-clause-row
unite-requires-clause-row c = derived_row c.args.w.now c.args.table.now c.args.m c.args.t c.requires.table (by.at_once c.requires.at_once)

pub unite-requires-clause-other : goal.unite-requires-clause-other
unite-requires-clause-other c = let lt = (at_once_within c.requires.at_once).1 in omega (arith, lt, c.requires.table.size.rows)

pub unite-requires-clause-key : goal.unite-requires-clause-key
unite-requires-clause-key c = derived_key c.args.w.now c.args.table.now c.args.m c.args.t c.requires.table (by.at_once c.requires.at_once)

pub unite-requires-clause-itself : goal.unite-requires-clause-itself
unite-requires-clause-itself c = let lt = (at_once_within c.requires.at_once).0 in omega (arith, lt, c.requires.table.size.keys)

pub returns-then-not-lacks_row-clause-maps : goal.returns-then-not-lacks_row-clause-maps
returns-then-not-lacks_row-clause-maps c = keeps_itself c.args.table.now.maps

pub returns-then-not-lacks_row-clause-step : goal.returns-then-not-lacks_row-clause-step
returns-then-not-lacks_row-clause-step c = step_none c.args.table.now

pub returns-then-not-lacks_row-clause-joined : goal.returns-then-not-lacks_row-clause-joined
returns-then-not-lacks_row-clause-joined c = whole_joined c.args.w.now c.args.table.now c.args.m c.args.t (c.lacks_row.ensures.whole c.if-not-lacks_row.true)

pub returns-clause-table : goal.returns-clause-table
returns-clause-table c =
    let both = c.in_ok-unite.ensures in
    united_derived c.args.table.now c.unite.new.self c.args.m c.args.t both.united c.args.w.now c.requires.table both.size c.requires.at_once c.requires.free

pub returns-clause-step : goal.returns-clause-step
returns-clause-step c = united_step c.args.table.now c.unite.new.self c.args.m c.args.t c.in_ok-unite.ensures.united (c.lacks_row.ensures.lacks c.if-not-lacks_row.false)

pub returns-clause-joined : goal.returns-clause-joined
returns-clause-joined c = united_joined c.args.table.now c.unite.new.self c.args.m c.args.t c.in_ok-unite.ensures.united c.args.w.now
