use Rattle.std.proofs.Common.{◌↔◌, IsTrue, refl, sym, ap, ◌∙◌, arith}
use Rattle.std.proofs.lemmas.Option.{slice_get_read, slice_get_within}
use Rattle.class_world.specs.Climbs.{IsGeneric}
use Rattle.class_world.specs.declared.world.JavaType.TheVariants as ty
use Rattle.class_world.proofs.Orders.{class_supers}
use Rattle.class_world.proofs.Searches.{direct_in, super_is_class}
use Rattle.class_world.proofs.Ways as by
use Rattle.class_world.proofs.climb.next_super.Goals as goal
use Rattle.class_world.proofs.climb.next_super.Goals.{then-raw, else-raw}

pub returns-then-has_base-clause-some : goal.returns-then-has_base-clause-some
returns-then-has_base-clause-some c =
    let w = c.args.w.now in
    let d = c.d-item.result in
    let items = c.supers_of-d-items.result.now in
    let there = slice_get_read items _ c.loop-d.d-index d refl c.loop-d-test.true c.d-item.is in
    let direct = (direct_in w c.args.c items c.supers_of-d-items.ensures d).0 (c.loop-d.d-index, there) in
    let is = super_is_class w (class_supers w c.requires.declared) c.args.c d direct in
    let shape = is.2 ∙ ap (λ h. ty.Class h is.1) (sym (c.class_of-h.ensures is.0 is.1 is.2)) in
    let both : IsTrue c.if-raw.has_base ↔ (IsTrue c.args.raw × IsGeneric w c.class_of-h.result) = elim c.if-raw.branch [
      | then-raw v ↦ (λ h. (v.if-raw.true, v.is_generic.ensures.0 (sym v.has_base-is ∙ h)), λ k. v.has_base-is ∙ v.is_generic.ensures.1 k.1)
      | else-raw v ↦ (λ h. absurd (cc (h, v.has_base-is, v.if-raw.false)), λ k. absurd (cc (k.0, v.if-raw.false)))
    ] in
    (direct, λ args u said seen. (by.super_leads w c.requires c.args.c c.class_of-h.result c.args.g c.args.raw c.if-raw.has_base c.has_base.result d is.1 direct shape both c.has_base.ensures args u said seen).0 c.if-has_base.true)

pub loop-d-preserved : goal.loop-d-preserved
loop-d-preserved c =
    let w = c.args.w.now in
    let d = c.d-item.result in
    let items = c.supers_of-d-items.result.now in
    let there = slice_get_read items _ c.loop-d.d-index d refl c.loop-d-test.true c.d-item.is in
    let direct = (direct_in w c.args.c items c.supers_of-d-items.ensures d).0 (c.loop-d.d-index, there) in
    let is = super_is_class w (class_supers w c.requires.declared) c.args.c d direct in
    let shape = is.2 ∙ ap (λ h. ty.Class h is.1) (sym (c.class_of-h.ensures is.0 is.1 is.2)) in
    let both : IsTrue c.if-raw.has_base ↔ (IsTrue c.args.raw × IsGeneric w c.class_of-h.result) = elim c.if-raw.branch [
      | then-raw v ↦ (λ h. (v.if-raw.true, v.is_generic.ensures.0 (sym v.has_base-is ∙ h)), λ k. v.has_base-is ∙ v.is_generic.ensures.1 k.1)
      | else-raw v ↦ (λ h. absurd (cc (h, v.has_base-is, v.if-raw.false)), λ k. absurd (cc (k.0, v.if-raw.false)))
    ] in
    by.nowhere_next w c.args.c c.args.g c.args.raw items c.loop-d.d-index d c.loop-d.invariant there (λ args u said seen base.
    let found = (by.super_leads w c.requires c.args.c c.class_of-h.result c.args.g c.args.raw c.if-raw.has_base c.has_base.result d is.1 direct shape both c.has_base.ensures args u said seen).1 base in
    cc (found, c.if-has_base.false))

pub returns-clause-none : goal.returns-clause-none
returns-clause-none c =
    let w = c.args.w.now in
    let items = c.supers_of-d-items.result.now in
    by.none_leads w c.requires c.args.c c.args.g c.args.raw (λ d direct.
    let at = (direct_in w c.args.c items c.supers_of-d-items.ensures d).1 direct in
    let lt = slice_get_within items at.0 d at.1 in
    c.loop-d.invariant at.0 d (omega (arith, lt)) at.1)
