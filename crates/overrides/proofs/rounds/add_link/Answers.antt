use Rattle.std.proofs.Common.{sym, subst}
use Rattle.shared_maps.proofs.Kept.{keeps_itself}
use Rattle.overrides.specs.Tables.{Rows}
use Rattle.overrides.specs.Rounds.{IsFollowed, IsTaken}
use Rattle.overrides.proofs.Gains.{step_none}
use Rattle.overrides.proofs.Taken.{joined_taken, taken_followed}
use Rattle.overrides.proofs.rounds.add_link.Goals as goal

pub returns-then-is_map-clause-maps : goal.returns-then-is_map-clause-maps
returns-then-is_map-clause-maps c = keeps_itself c.args.table.now.maps

pub returns-then-is_map-clause-step : goal.returns-then-is_map-clause-step
returns-then-is_map-clause-step c = step_none c.args.table.now

pub returns-then-is_map-clause-taken : goal.returns-then-is_map-clause-taken
returns-then-is_map-clause-taken c = c.requires.taken c.row-row.result (c.is_map.ensures c.if-is_map.true)

pub returns-then-is_map-clause-followed : goal.returns-then-is_map-clause-followed
returns-then-is_map-clause-followed c none =
    taken_followed c.args.w.now c.args.table.now c.args.link.lower c.args.link.upper c.row-row.result c.row-row.ensures.value (c.requires.taken c.row-row.result (c.is_map.ensures c.if-is_map.true))

pub returns-clause-taken : goal.returns-clause-taken
returns-clause-taken c =
    joined_taken c.args.w.now c.args.table.now c.args.link.lower c.args.link.upper c.row-row.result c.row-row.ensures.value c.add_through.new.table c.row-row.ensures.map c.in_ok-added.ensures.maps c.in_ok-added.ensures.joined

pub returns-clause-followed : goal.returns-clause-followed
returns-clause-followed c none =
    let followed = taken_followed c.args.w.now c.args.table.now c.args.link.lower c.args.link.upper c.row-row.result c.row-row.ensures.value in
    let same = c.in_ok-added.ensures.step.same none in
    let taken =
    joined_taken c.args.w.now c.args.table.now c.args.link.lower c.args.link.upper c.row-row.result c.row-row.ensures.value c.add_through.new.table c.row-row.ensures.map c.in_ok-added.ensures.maps c.in_ok-added.ensures.joined in
    subst (λ (t : Rows). IsFollowed c.args.w.now t c.args.link.lower c.args.link.upper) (sym same)
    (followed (subst (λ (t : Rows). IsTaken c.args.w.now t c.args.link.lower c.args.link.upper c.row-row.result) same taken))
