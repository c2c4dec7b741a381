use Rattle.std.proofs.Common.{sym, subst, arith}
use Rattle.shared_maps.proofs.Kept.{keeps_both, keeps_itself}
use Rattle.class_world.specs.Overriding as by
use Rattle.overrides.specs.Rounds.{IsStep}
use Rattle.overrides.proofs.Gains.{step_none, step_on, step_still}
use Rattle.overrides.proofs.Lacking.{lacking_above, lacking_smaller, thirds_end, thirds_more}
use Rattle.overrides.proofs.rounds.add_thirds.Goals as goal
use Rattle.overrides.proofs.rounds.add_thirds.Goals.{then-branch, else-branch}

pub lacking-init : goal.lacking-init
lacking-init c = record {
  derived = c.requires.table;
  maps = keeps_itself c.args.table.now.maps;
  step = step_none c.args.table.now;
  thirds = λ k lt. absurd (omega (arith, lt));
}

pub add_third-requires-clause-through : goal.add_third-requires-clause-through
add_third-requires-clause-through c other agree =
    let up = lacking_above c.lacking.table c.args.m c.args.t c.lacking.from c.in-Some.k c.in-Some.ensures.first.0 in
    by.through c.requires.overrides (c.lacking.invariant.derived.sound c.args.t c.in-Some.k up) other agree

pub lacking-smaller : goal.lacking-smaller
lacking-smaller c =
    lacking_smaller c.lacking.table c.args.m c.args.t c.lacking.from c.add_third.new.table.maps.keys c.in-Some.k c.in-Some.ensures.first.0 c.in_ok-add_third.ensures.maps.keys

pub lacking-preserved : goal.lacking-preserved
lacking-preserved c =
    let start = c.args.table.now in
    let old = c.lacking.table in
    let new = c.add_third.new.table in
    let h = c.lacking.invariant in
    let added = c.in_ok-add_third.ensures in
    record {
      derived = added.table;
      maps = keeps_both h.maps added.maps;
      step = elim c.if-branch.branch [
        | then-branch v ↦ subst (IsStep start new) (sym v.added-is) (step_on h.step (subst (IsStep old new) v.if-branch.true added.step))
        | else-branch v ↦ subst (IsStep start new) (sym v.added-is) (step_still h.step (subst (IsStep old new) v.if-branch.false added.step))
      ];
      thirds =
          thirds_more c.args.w.now c.args.m c.args.t start old c.lacking.from h.step.grows h.thirds new c.in-Some.k c.in-Some.ensures.first added.step.grows added.has;
    }

pub returns-clause-thirds : goal.returns-clause-thirds
returns-clause-thirds c =
    let h = c.lacking.invariant in
    thirds_end c.args.w.now c.args.m c.args.t c.args.table.now c.lacking.table c.lacking.from h.step.grows h.thirds c.in_default.ensures.first
