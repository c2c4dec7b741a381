use Rattle.std.proofs.Common.{get_or}
use Rattle.std.proofs.lemmas.Option.{slice_get-get_or}
use Rattle.std.proofs.lemmas.List.Elements.{Contains-get_or}
use Rattle.class_world.specs.Signatures.{AgreeBelow}
use Rattle.class_world.specs.Overriding.{AreInstanceMethods}
use Rattle.method_ties.specs.declared.Meeting.{Meeting}
use Rattle.overrides.specs.AtOnce.{IsTied}
use Rattle.overrides.proofs.Places.{items_more, items_all}
use Rattle.overrides.proofs.at_once.add_meetings.Goals as goal

none : Meeting
none = record { lower = 0; upper = 0 }

pub add_meeting-requires-clause-met : goal.add_meeting-requires-clause-met
unfolding none
add_meeting-requires-clause-met c = c.requires.met (get_or c.args.meetings.now c.loop-meeting.meeting-index none) (Contains-get_or c.args.meetings.now c.loop-meeting.meeting-index none c.loop-meeting-test.true)

pub loop-meeting-preserved : goal.loop-meeting-preserved
unfolding none
loop-meeting-preserved c =
    let w = c.args.w.now in
    let meetings = c.args.meetings.now in
    let i = c.loop-meeting.meeting-index in
    let h = c.loop-meeting.invariant in
    let added = c.in_ok-add_meeting.ensures in
    let new = c.add_meeting.new.table in
    record {
      ties = added.table;
      kept = λ a b tied. added.kept a b (h.kept a b tied);
      all = items_more (λ (p : Meeting). AreInstanceMethods w p.lower p.upper → AgreeBelow w p.lower p.upper → IsTied new p.lower p.upper) meetings i (get_or meetings i none)
          (λ j p lt is are agree. added.kept p.lower p.upper (h.all j p lt is are agree)) (slice_get-get_or meetings i none c.loop-meeting-test.true) added.tied;
    }

pub returns-clause-all : goal.returns-clause-all
returns-clause-all c =
    let w = c.args.w.now in
    items_all (λ (p : Meeting). AreInstanceMethods w p.lower p.upper → AgreeBelow w p.lower p.upper → IsTied c.loop-meeting.table p.lower p.upper) c.args.meetings.now c.loop-meeting.meeting-index
    c.loop-meeting.invariant.all c.loop-meeting-test.false
