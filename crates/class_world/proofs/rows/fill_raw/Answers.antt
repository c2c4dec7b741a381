use Rattle.std.proofs.Common.{◌≡◌, ◌+◌, ◌∙◌, ◌↔◌, ◌⊎◌, refl, sym, subst, ap, length, arith}
use Rattle.std.specs.Prelude.{slice_get}
use Rattle.class_world.specs.Types.{erased}
use Rattle.class_world.specs.Sound.{IsSet}
use Rattle.class_world.specs.Climbs.{HasBase}
use Rattle.class_world.specs.Merged.{AmongFirst, AreWithin}
use Rattle.class_world.proofs.Collected as by
use Rattle.class_world.proofs.rows.fill_raw.Goals as goal
use Rattle.class_world.proofs.rows.fill_raw.Goals.{then-is_generic, else-is_generic}

pub loop-d-init : goal.loop-d-init
loop-d-init c = record {
  len = refl;
  sets = λ g. (λ is. absurd (c.requires.none g is), λ h. absurd (by.none_raw (λ d. HasBase c.args.w.now (erased d) g) c.args.info.now.supers h));
}

pub set_all-requires : goal.set_all-requires
set_all-requires c =
    let w = c.args.w.now in
    let there = by.item_at c.as_slice-d-items.result.now c.args.info.now.supers c.loop-d.d-index c.d-item.result c.as_slice-d-items.ensures c.loop-d-test.true c.d-item.is in
    subst (AreWithin c.raw_bases_of.result.now) (sym (c.loop-d.invariant.len ∙ c.requires.len))
    (by.raw_within w c.requires.supers c.args.c c.args.info.now c.requires.known c.args.rows.now c.loop-d.d-index c.class_of-h.result c.d-item.result c.raw_bases_of.result.now c.requires.rows there
    c.class_of-h.ensures (c.if-is_generic.ensures.0 refl) c.raw_bases_of.ensures)

pub set_both-requires : goal.set_both-requires
set_both-requires c =
    let w = c.args.w.now in
    let there = by.item_at c.as_slice-d-items.result.now c.args.info.now.supers c.loop-d.d-index c.d-item.result c.as_slice-d-items.ensures c.loop-d-test.true c.d-item.is in
    let told = by.types_of_super w c.requires.supers c.args.c c.args.info.now c.requires.known c.args.rows.now c.loop-d.d-index c.d-item.result c.types_of.result.now c.requires.rows there
    (λ g args e a at. c.types_of.ensures a (ap (slice_get c.args.rows.now) (c.class_of-h.ensures g args e) ∙ at)) in
    subst (AreWithin c.types_of.result.now) (sym (c.loop-d.invariant.len ∙ c.requires.len))
    (by.within w c.requires.supers c.args.c c.args.info.now c.requires.known c.loop-d.d-index c.d-item.result c.types_of.result.now there told)

pub loop-d-preserved : goal.loop-d-preserved
loop-d-preserved c =
    let w = c.args.w.now in
    let d = c.d-item.result in
    let there = by.item_at c.as_slice-d-items.result.now c.args.info.now.supers c.loop-d.d-index d c.as_slice-d-items.ensures c.loop-d-test.true c.d-item.is in
    elim c.if-is_generic.branch [
      | then-is_generic v ↦ record {
        len = c.if-is_generic.auto.words ∙ c.loop-d.invariant.len;
        sets = λ g. subst (λ ws. IsSet ws g ↔ (⊥ ⊎ AmongFirst (λ d. HasBase w (erased d) g) c.args.info.now.supers (c.loop-d.d-index + 1))) (sym v.words-is)
            (by.among_next (λ d. HasBase w (erased d) g) c.args.info.now.supers c.loop-d.d-index d there (v.set_all.ensures.sets g) (c.loop-d.invariant.sets g)
            (by.raw_of_super w c.requires.supers c.args.c c.args.info.now c.requires.known c.args.rows.now c.loop-d.d-index c.class_of-h.result d v.raw_bases_of.result.now c.requires.rows there
            c.class_of-h.ensures (v.if-is_generic.ensures.0 refl) v.raw_bases_of.ensures g));
      }
      | else-is_generic v ↦ record {
        len = c.if-is_generic.auto.words ∙ c.loop-d.invariant.len;
        sets = λ g. subst (λ ws. IsSet ws g ↔ (⊥ ⊎ AmongFirst (λ d. HasBase w (erased d) g) c.args.info.now.supers (c.loop-d.d-index + 1))) (sym v.words-is)
            (by.among_next (λ d. HasBase w (erased d) g) c.args.info.now.supers c.loop-d.d-index d there (v.set_both.ensures.sets g) (c.loop-d.invariant.sets g)
            (by.full_of_super w c.requires.supers c.args.c c.args.info.now c.requires.known c.args.rows.now c.loop-d.d-index c.class_of-h.result d v.types_of.result.now c.args.generic.now c.requires.generic
            c.requires.rows there c.class_of-h.ensures (λ h. let never = v.if-is_generic.ensures.1 h in absurd (cc never)) v.types_of.ensures g));
      }
    ]

pub returns : goal.returns
returns c = λ g.
    let len : length c.as_slice-d-items.result.now ≡ length c.args.info.now.supers = ap length c.as_slice-d-items.ensures in
    by.then_iff (c.loop-d.invariant.sets g) (by.raw_told c.args.w.now c.requires.supers c.args.c c.args.info.now c.requires.known g c.loop-d.d-index c.requires.some (omega (arith, len)))
