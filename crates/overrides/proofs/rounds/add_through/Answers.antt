use Rattle.std.proofs.Common.{false, true, sym, subst}
use Rattle.shared_maps.proofs.Kept.{keeps_both}
use Rattle.class_world.specs.Overriding as by
use Rattle.overrides.specs.Rounds.{IsStep}
use Rattle.overrides.proofs.Gains.{added_derived, derived_row, derived_key, step_or}
use Rattle.overrides.proofs.rounds.add_through.Goals as goal

pub add-requires-clause-row : goal.add-requires-clause-row
add-requires-clause-row c = derived_row c.args.w.now c.args.table.now c.args.m c.args.t c.requires.table (by.at_once c.requires.at_once)

pub add-requires-clause-key : goal.add-requires-clause-key
add-requires-clause-key c = derived_key c.args.w.now c.args.table.now c.args.m c.args.t c.requires.table (by.at_once c.requires.at_once)

pub add_row-requires-clause-free : goal.add_row-requires-clause-free
add_row-requires-clause-free c = c.requires.free c.if-free.true

pub add_thirds-requires-clause-overrides : goal.add_thirds-requires-clause-overrides
add_thirds-requires-clause-overrides c = by.at_once c.requires.at_once

pub add_thirds-requires-clause-table : goal.add_thirds-requires-clause-table
add_thirds-requires-clause-table c =
    added_derived c.args.w.now c.args.table.now c.add.new.table c.args.m c.args.t c.requires.table c.in_ok-added.ensures.size c.in_ok-added.ensures.only (by.at_once c.requires.at_once)

pub returns-then-added-clause-maps : goal.returns-then-added-clause-maps
returns-then-added-clause-maps c = keeps_both c.in_ok-added.ensures.maps c.in_ok-more.ensures.maps

pub returns-then-added-clause-step : goal.returns-then-added-clause-step
returns-then-added-clause-step c =
    let first = subst (IsStep c.args.table.now c.add.new.table) c.if-added.true c.in_ok-added.ensures.step in
    subst (IsStep c.args.table.now c.add_thirds.new.table) (sym c.if-added.true) (step_or true c.in_ok-more.more first c.in_ok-more.ensures.step)

pub returns-else-added-clause-step : goal.returns-else-added-clause-step
returns-else-added-clause-step c =
    step_or false c.in_ok-more.more (subst (IsStep c.args.table.now c.add.new.table) c.if-added.false c.in_ok-added.ensures.step) c.in_ok-more.ensures.step

pub returns-then-added-clause-joined : goal.returns-then-added-clause-joined
returns-then-added-clause-joined c =
    let added = c.in_ok-added.ensures in
    let more = c.in_ok-more.ensures in
    record { has = more.step.grows c.args.m c.args.t added.has; all = λ k has. more.thirds k (added.step.grows c.args.t k has) }

pub returns-else-added-clause-joined : goal.returns-else-added-clause-joined
returns-else-added-clause-joined c =
    let added = c.in_ok-added.ensures in
    let more = c.in_ok-more.ensures in
    record { has = more.step.grows c.args.m c.args.t added.has; all = λ k has. more.thirds k (added.step.grows c.args.t k has) }
