use Rattle.std.proofs.Common.{◌<◌, ◌∙◌, Some, false, refl, get_or, length, arith}
use Rattle.std.proofs.lemmas.Option.{slice_get-get_or, slice_get_read}
use Rattle.std.proofs.lemmas.List.Elements.{Contains-get_or}
use Rattle.class_world.proofs.Words.{length_set}
use Rattle.overrides.specs.declared.links.Link.{Link}
use Rattle.overrides.specs.Rounds.{IsFollowed}
use Rattle.overrides.proofs.Gains.{AtPlace, at_place, at_places, pass_begins, pass_adds, pass_stays, step_none}
use Rattle.overrides.proofs.Taken.{taken_next}
use Rattle.overrides.proofs.rounds.add_round.Goals as goal
use Rattle.overrides.proofs.rounds.add_round.Goals.{then-more, else-more}

none : Link
none = record { lower = 0; upper = 0; free = false }

pub loop-i-init : goal.loop-i-init
loop-i-init c = record {
  pass = pass_begins c.args.w.now c.args.table.now (AtPlace c.args.links.now (λ t (x : Link). IsFollowed c.args.w.now t x.lower x.upper)) c.args.table.now false c.requires.table (step_none c.args.table.now);
  size = c.requires.size;
  taken = c.requires.taken;
}

pub add_link-requires-clause-link : goal.add_link-requires-clause-link
unfolding none
add_link-requires-clause-link c = c.requires.links (get_or c.args.links.now c.loop-i.i none) (Contains-get_or c.args.links.now c.loop-i.i none c.loop-i-test.true)

pub add_link-requires-clause-taken : goal.add_link-requires-clause-taken
unfolding none
add_link-requires-clause-taken c map e =
    let taken = c.loop-i.taken.items in
    let h = c.loop-i.invariant in
    let within : c.loop-i.i < length taken = omega (arith, c.loop-i-test.true, h.size) in
    h.taken c.loop-i.i (get_or c.args.links.now c.loop-i.i none) c.index.result.now (slice_get-get_or c.args.links.now c.loop-i.i none c.loop-i-test.true)
    (slice_get_read taken (length taken) c.loop-i.i c.index.result.now refl within c.index.ensures) map e

pub loop-i-preserved : goal.loop-i-preserved
unfolding none
loop-i-preserved c =
    let w = c.args.w.now in
    let start = c.args.table.now in
    let links = c.args.links.now in
    let i = c.loop-i.i in
    let x = get_or links i none in
    let at = slice_get-get_or links i none c.loop-i-test.true in
    let h = c.loop-i.invariant in
    let old = c.loop-i.table in
    let new = c.add_link.new.table in
    let row = c.in_ok-row.row in
    let added = c.in_ok-row.ensures in
    record {
      pass = elim c.if-more.branch [
        | then-more v ↦
            pass_adds w start (AtPlace links (λ t (x : Link). IsFollowed w t x.lower x.upper)) old c.loop-i.added i h.pass new c.in_ok-row.more c.if-more.added added.table added.step v.if-more.true v.added-is
        | else-more v ↦
            pass_stays w start (AtPlace links (λ t (x : Link). IsFollowed w t x.lower x.upper)) old c.loop-i.added i h.pass new c.in_ok-row.more c.if-more.added added.table added.step
            (λ none. at_place links (λ t (x : Link). IsFollowed w t x.lower x.upper) new i x at (added.followed none)) v.if-more.false v.added-is
      ];
      size = length_set c.loop-i.taken.items i (Some row) ∙ h.size;
      taken = taken_next w links c.loop-i.taken.items old new i x row h.taken added.step.grows added.maps at added.taken;
    }

pub returns-clause-table : goal.returns-clause-table
returns-clause-table c = c.loop-i.invariant.pass.derived

pub returns-clause-step : goal.returns-clause-step
returns-clause-step c = c.loop-i.invariant.pass.step

pub returns-clause-closed : goal.returns-clause-closed
returns-clause-closed c stays =
    at_places c.args.links.now (λ t (x : Link). IsFollowed c.args.w.now t x.lower x.upper) c.loop-i.table c.loop-i.i (c.loop-i.invariant.pass.done stays) (omega (arith, c.loop-i-test.false))
