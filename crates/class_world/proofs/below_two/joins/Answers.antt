use Rattle.std.proofs.Common.{refl, arith}
use Rattle.std.proofs.lemmas.Option.{slice_get_read}
use Rattle.class_world.specs.Climbs.{IsFlagged}
use Rattle.class_world.proofs.Singles as by
use Rattle.class_world.proofs.below_two.joins.Goals as goal
use Rattle.class_world.proofs.below_two.joins.Goals.{then-is_marked+else-found, else-is_marked}

pub loop-d-init : goal.loop-d-init
loop-d-init c = record { none = λ e. by.none_yet c.args.flags.now c.supers_of-d-items.result.now; one = by.one_yet c.args.flags.now c.supers_of-d-items.result.now }

pub loop-d-preserved : goal.loop-d-preserved
loop-d-preserved c =
    let flags = c.args.flags.now in
    let items = c.supers_of-d-items.result.now in
    let d = c.d-item.result in
    let there = slice_get_read items _ c.loop-d.d-index d refl c.loop-d-test.true c.d-item.is in
    elim c.if-is_marked.branch [
      | then-is_marked+else-found v ↦ record {
        none = λ e. absurd (cc (e, v.found-is));
        one = by.first_flagged flags items c.loop-d.d-index (c.loop-d.invariant.none v.if-found.false);
      }
      | else-is_marked v ↦
          let unset : IsFlagged flags d → ⊥ = λ is. let never = v.if-is_marked.ensures.1 (by.flag_read flags d c.class_of.result c.class_of.ensures is) in cc never in
          record {
            none = λ e. by.none_next flags items c.loop-d.d-index d (c.loop-d.invariant.none (cc (e, v.found-is))) there unset;
            one = by.one_next flags items c.loop-d.d-index d c.loop-d.invariant.one there unset;
          }
    ]

pub returns : goal.returns
returns c = λ h. by.one_end c.args.w.now c.args.flags.now c.args.c c.supers_of-d-items.result.now c.loop-d.d-index c.supers_of-d-items.ensures c.loop-d.invariant.one (omega arith)
