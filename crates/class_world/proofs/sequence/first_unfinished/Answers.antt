use Rattle.std.proofs.Common.{◌≡◌, Some, length, refl, arith}
use Rattle.std.specs.Prelude.{slice_get}
use Rattle.std.proofs.lemmas.Option.{slice_get_read, slice_get_within}
use Rattle.class_world.proofs.Searches as by
use Rattle.class_world.proofs.sequence.first_unfinished.Goals as goal

pub returns-then-not-is_marked-clause-some : goal.returns-then-not-is_marked-clause-some
returns-then-not-is_marked-clause-some c =
    let items = c.supers_of-supers.result.now in
    let d = c.index-supers-at.result in
    let there : slice_get items c.loop-at.at ≡ Some d = slice_get_read items (length items) c.loop-at.at d refl c.loop-at-test.true c.index-supers-at.is in
    by.unfinished c.args.w.now c.requires.supers c.args.visit.class c.class_of-g.result c.args.finished.now d c.requires.size
    ((by.direct_in c.args.w.now c.args.visit.class items c.supers_of-supers.ensures d).0 (c.loop-at.at, there)) c.class_of-g.ensures
    (λ h. let never = c.is_marked.ensures.1 h in absurd (cc (never, c.if-not-is_marked.true)))

pub loop-at-preserved : goal.loop-at-preserved
loop-at-preserved c =
    let items = c.supers_of-supers.result.now in
    let d = c.index-supers-at.result in
    let there : slice_get items c.loop-at.at ≡ Some d = slice_get_read items (length items) c.loop-at.at d refl c.loop-at-test.true c.index-supers-at.is in
    by.finished_next c.args.finished.now items c.loop-at.at c.class_of-g.result d c.loop-at.invariant there c.class_of-g.ensures (c.is_marked.ensures.0 c.if-not-is_marked.false)

pub returns-clause-none : goal.returns-clause-none
returns-clause-none c = λ g args super.
    let items = c.supers_of-supers.result.now in
    let at = (by.direct_in c.args.w.now c.args.visit.class items c.supers_of-supers.ensures _).1 super in
    let lt = slice_get_within items at.0 _ at.1 in
    c.loop-at.invariant at.0 g args (omega (arith, lt)) at.1
