use Rattle.std.proofs.Common.{false, sym, subst, get_or}
use Rattle.std.proofs.lemmas.Option.{slice_get-get_or}
use Rattle.std.proofs.lemmas.List.Elements.{Contains-get_or}
use Rattle.shared_maps.specs.Maps.{AreEntries}
use Rattle.overrides.specs.Tables.{Has, Rows, value_at}
use Rattle.overrides.proofs.Chains.{HasThrough, row_closed}
use Rattle.overrides.proofs.Gains.{AtPlace, at_place, pass_adds, pass_begins, pass_stays, step_none}
use Rattle.overrides.proofs.closed.close_row.Goals as goal
use Rattle.overrides.proofs.closed.close_row.Goals.{After-deref-entry-items, then-branch, else-branch}

entries_are : (c : After-deref-entry-items) → AreEntries (value_at c.args.table.now c.args.m) c.deref-entry-items.result.now
entries_are c = subst (AreEntries (value_at c.args.table.now c.args.m)) (sym c.deref-entry-items.ensures.value) c.in_ok-row.ensures

pub loop-entry-init : goal.loop-entry-init
loop-entry-init c =
    pass_begins c.args.w.now c.args.table.now (AtPlace c.deref-entry-items.result.now (HasThrough c.args.w.now c.args.m)) c.args.table.now false c.requires.table (step_none c.args.table.now)

pub add_thirds-requires-clause-overrides : goal.add_thirds-requires-clause-overrides
add_thirds-requires-clause-overrides c =
    let entries = c.deref-entry-items.result.now in
    let p = get_or entries c.loop-entry.entry-index (0, 0) in
    let are = entries_are ((goal.at.add_thirds-requires-clause-overrides c).After-deref-entry-items) in
    c.requires.table.sound c.args.m p.0 (p.1, (are.each p.0 p.1).0 (Contains-get_or entries c.loop-entry.entry-index (0, 0) c.loop-entry-test.true))

pub loop-entry-preserved : goal.loop-entry-preserved
loop-entry-preserved c =
    let w = c.args.w.now in
    let start = c.args.table.now in
    let m = c.args.m in
    let entries = c.deref-entry-items.result.now in
    let i = c.loop-entry.entry-index in
    let p = get_or entries i (0, 0) in
    let at = slice_get-get_or entries i (0, 0) c.loop-entry-test.true in
    let old = c.loop-entry.table in
    let new = c.add_thirds.new.table in
    let pass = c.loop-entry.invariant in
    let thirds = c.in_ok-add_thirds.ensures in
    elim c.if-branch.branch [
      | then-branch v ↦
          pass_adds w start (AtPlace entries (HasThrough w m)) old c.loop-entry.added i pass new c.in_ok-add_thirds.field-0 c.if-branch.added thirds.table thirds.step v.if-branch.true v.added-is
      | else-branch v ↦
          pass_stays w start (AtPlace entries (HasThrough w m)) old c.loop-entry.added i pass new c.in_ok-add_thirds.field-0 c.if-branch.added thirds.table thirds.step
          (λ none. at_place entries (HasThrough w m) new i p at (λ k has. thirds.thirds k (subst (λ (t : Rows). Has t p.0 k) (thirds.step.same none) has))) v.if-branch.false v.added-is
    ]

pub returns-clause-table : goal.returns-clause-table
returns-clause-table c = c.loop-entry.invariant.derived

pub returns-clause-step : goal.returns-clause-step
returns-clause-step c = c.loop-entry.invariant.step

pub returns-clause-closed : goal.returns-clause-closed
returns-clause-closed c none =
    row_closed c.args.w.now c.args.table.now c.loop-entry.table c.loop-entry.added c.args.m c.deref-entry-items.result.now c.loop-entry.entry-index
    (entries_are ((goal.at.returns-clause-closed c).After-deref-entry-items)) c.loop-entry.invariant c.loop-entry-test.false none
