use Rattle.std.proofs.Common.{◌≡◌, ◌∙◌, [], length, ap, sym, subst, arith}
use Rattle.std.specs.Prelude.{slice_get}
use Rattle.class_world.specs.declared.world.JavaType.TheVariants as ty
use Rattle.class_world.specs.Subtypes.{Subtype}
use Rattle.class_world.specs.Merged.{AreWithin}
use Rattle.class_world.proofs.Collected as by
use Rattle.class_world.proofs.rows.fill.Goals as goal

pub loop-d-init : goal.loop-d-init
loop-d-init c = record {
  len = c.set-2.ensures.len ∙ c.set.ensures.len;
  sets = by.fill_start c.args.words.now c.set.new.words c.set-2.new.words c.args.c c.args.info.now.supers (λ h d. Subtype c.args.w.now d (ty.Class h [])) c.requires.none
      c.set.ensures.sets c.set-2.ensures.sets;
}

pub set_all-requires : goal.set_all-requires
set_all-requires c =
    let w = c.args.w.now in
    let there = by.item_at c.as_slice-d-items.result.now c.args.info.now.supers c.loop-d.d-index c.d-item.result c.as_slice-d-items.ensures c.loop-d-test.true c.d-item.is in
    let told = by.types_of_super w c.requires.supers c.args.c c.args.info.now c.requires.known c.args.rows.now c.loop-d.d-index c.d-item.result c.types_of.result.now c.requires.rows there
    (λ g args e a at. c.types_of.ensures a (ap (slice_get c.args.rows.now) (c.class_of.ensures g args e) ∙ at)) in
    subst (AreWithin c.types_of.result.now) (sym (c.loop-d.invariant.len ∙ c.requires.len))
    (by.within w c.requires.supers c.args.c c.args.info.now c.requires.known c.loop-d.d-index c.d-item.result c.types_of.result.now there told)

pub loop-d-preserved : goal.loop-d-preserved
loop-d-preserved c =
    let w = c.args.w.now in
    let there = by.item_at c.as_slice-d-items.result.now c.args.info.now.supers c.loop-d.d-index c.d-item.result c.as_slice-d-items.ensures c.loop-d-test.true c.d-item.is in
    let told = by.types_of_super w c.requires.supers c.args.c c.args.info.now c.requires.known c.args.rows.now c.loop-d.d-index c.d-item.result c.types_of.result.now c.requires.rows there
    (λ g args e a at. c.types_of.ensures a (ap (slice_get c.args.rows.now) (c.class_of.ensures g args e) ∙ at)) in
    record {
      len = c.set_all.ensures.len ∙ c.loop-d.invariant.len;
      sets = λ h. by.among_next (λ d. Subtype w d (ty.Class h [])) c.args.info.now.supers c.loop-d.d-index c.d-item.result there (c.set_all.ensures.sets h) (c.loop-d.invariant.sets h) (told h);
    }

pub returns : goal.returns
returns c = λ g.
    let len : length c.as_slice-d-items.result.now ≡ length c.args.info.now.supers = ap length c.as_slice-d-items.ensures in
    by.then_iff (c.loop-d.invariant.sets g) (by.types_told c.args.w.now c.requires.supers c.args.c c.args.info.now c.requires.known g c.loop-d.d-index (omega (arith, len)))
