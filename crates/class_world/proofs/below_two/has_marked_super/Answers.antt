use Rattle.std.proofs.Common.{refl, arith}
use Rattle.std.proofs.lemmas.Option.{slice_get_read, slice_get_within}
use Rattle.class_world.specs.declared.world.JavaType.TheVariants as ty
use Rattle.class_world.proofs.Searches.{direct_in}
use Rattle.class_world.proofs.Singles.{unmarked_next}
use Rattle.class_world.proofs.below_two.has_marked_super.Goals as goal

pub loop-d-preserved : goal.loop-d-preserved
loop-d-preserved c =
    let items = c.supers_of-d-items.result.now in
    let d = c.d-item.result in
    let there = slice_get_read items _ c.loop-d.d-index d refl c.loop-d-test.true c.d-item.is in
    unmarked_next c.args.marks.now items c.loop-d.d-index c.class_of.result d c.loop-d.invariant there c.class_of.ensures (λ h. let never = c.is_marked.ensures.1 h in absurd (cc (never, c.if-is_marked.false)))

pub returns : goal.returns
returns c = λ no g args direct.
    let items = c.supers_of-d-items.result.now in
    let at = (direct_in c.args.w.now c.args.c items c.supers_of-d-items.ensures (ty.Class g args)).1 direct in
    let lt = slice_get_within items at.0 _ at.1 in
    c.loop-d.invariant at.0 g args (omega (arith, lt)) at.1
