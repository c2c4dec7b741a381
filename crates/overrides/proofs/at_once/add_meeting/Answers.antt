use Rattle.std.proofs.Common.{◌≡◌, None, false, inl, inr}
use Rattle.std.proofs.lemmas.Result.{on_ok_weaker}
use Rattle.overrides.specs.Tables.{value_at}
use Rattle.overrides.specs.declared.at_once.TheConstants.{APART}
use Rattle.overrides.proofs.Places.{none_there, some_there, ok_both}
use Rattle.overrides.proofs.Edges.{tie_row, tie_key, ties_written, ties_kept, tied_here, tied_already, met_is, apart_is}
use Rattle.overrides.proofs.at_once.add_meeting.Goals as goal
use Rattle.overrides.proofs.at_once.add_meeting.Goals.{After-is_some, then-not-are_instance-via-then-not-are_instance, then-not-are_instance-via-else-not-are_instance+then-is_some}

pub returns-then-not-are_instance-clause-tied : goal.returns-then-not-are_instance-clause-tied
returns-then-not-are_instance-clause-tied c are agree =
    let w = c.args.w.now in
    let p = c.args.meeting in
    elim c.then-not-are_instance.branch [
      | then-not-are_instance-via-then-not-are_instance v ↦ let yes = c.are_instance.ensures.1 are in absurd (cc (yes, v.if-not-are_instance.true))
      | then-not-are_instance-via-else-not-are_instance+then-is_some v ↦
          let some = some_there v.get.result (value_at c.args.table.now p.lower p.upper) v.is_some.result v.get.ensures v.is_some.ensures v.if-is_some.true in
          tied_already w c.args.table.now p.lower p.upper some.0 c.requires.table some.1 agree
    ]

pub set-requires-clause-row : goal.set-requires-clause-row
set-requires-clause-row c = tie_row c.args.w.now c.args.table.now c.args.meeting.lower c.args.meeting.upper c.requires.table (c.are_instance.ensures.0 c.if-not-are_instance.false)

pub set-requires-clause-key : goal.set-requires-clause-key
set-requires-clause-key c = tie_key c.args.w.now c.args.table.now c.args.meeting.lower c.args.meeting.upper c.requires.table (c.are_instance.ensures.0 c.if-not-are_instance.false)

pub set-requires-else-branch-clause-row : goal.set-requires-else-branch-clause-row
set-requires-else-branch-clause-row c = tie_row c.args.w.now c.args.table.now c.args.meeting.lower c.args.meeting.upper c.requires.table (c.are_instance.ensures.0 c.if-not-are_instance.false)

pub set-requires-else-branch-clause-key : goal.set-requires-else-branch-clause-key
set-requires-else-branch-clause-key c = tie_key c.args.w.now c.args.table.now c.args.meeting.lower c.args.meeting.upper c.requires.table (c.are_instance.ensures.0 c.if-not-are_instance.false)

pub returns-then-branch-clause-table : goal.returns-then-branch-clause-table
returns-then-branch-clause-table c =
    let w = c.args.w.now in
    let p = c.args.meeting in
    let are = c.are_instance.ensures.0 c.if-not-are_instance.false in
    ok_both c.set.result
    (λ size written.
    ties_written w c.args.table.now c.set.new.self p.lower p.upper c.met_tie.result c.requires.table size written
    (met_is w c.requires.met.0 p.lower p.upper c.met_tie.result c.requires.met.1 are (c.in_ok-agree_below.ensures.0 c.if-branch.true) c.met_tie.ensures.tied c.met_tie.ensures.free))
    c.set.ensures.size c.set.ensures.written

pub returns-then-branch-clause-kept : goal.returns-then-branch-clause-kept
returns-then-branch-clause-kept c =
    let p = c.args.meeting in
    ok_both c.set.result (λ size written. ties_kept c.args.w.now c.args.table.now c.set.new.self p.lower p.upper c.met_tie.result c.requires.table size written (inl c.met_tie.ensures.tied)) c.set.ensures.size c.set.ensures.written

pub returns-then-branch-clause-tied : goal.returns-then-branch-clause-tied
returns-then-branch-clause-tied c =
    let p = c.args.meeting in
    ok_both c.set.result (λ size written are agree. tied_here c.args.w.now c.args.table.now c.set.new.self p.lower p.upper c.met_tie.result c.requires.table size written c.met_tie.ensures.tied) c.set.ensures.size
    c.set.ensures.written

no_tie : (c : After-is_some) → c.is_some.result ≡ false → value_at c.args.table.now c.args.meeting.lower c.args.meeting.upper ≡ None
no_tie c told = none_there c.get.result (value_at c.args.table.now c.args.meeting.lower c.args.meeting.upper) c.is_some.result c.get.ensures c.is_some.ensures told

pub returns-else-branch-clause-table : goal.returns-else-branch-clause-table
returns-else-branch-clause-table c =
    let w = c.args.w.now in
    let p = c.args.meeting in
    ok_both c.set-else-branch.result
    (λ size written.
    ties_written w c.args.table.now c.set-else-branch.new.self p.lower p.upper APART c.requires.table size written
    (apart_is w p.lower p.upper (λ agree. let yes = c.in_ok-agree_below.ensures.1 agree in cc (yes, c.if-branch.false))))
    c.set-else-branch.ensures.size c.set-else-branch.ensures.written

pub returns-else-branch-clause-kept : goal.returns-else-branch-clause-kept
returns-else-branch-clause-kept c =
    let p = c.args.meeting in
    ok_both c.set-else-branch.result
    (λ size written.
    ties_kept c.args.w.now c.args.table.now c.set-else-branch.new.self p.lower p.upper APART c.requires.table size written
    (inr (no_tie ((goal.at.returns-else-branch-clause-kept c).After-is_some) c.if-is_some.false)))
    c.set-else-branch.ensures.size c.set-else-branch.ensures.written

pub returns-else-branch-clause-tied : goal.returns-else-branch-clause-tied
returns-else-branch-clause-tied c =
    on_ok_weaker c.set-else-branch.result (λ written are agree. let yes = c.in_ok-agree_below.ensures.1 agree in absurd (cc (yes, c.if-branch.false))) c.set-else-branch.ensures.written
