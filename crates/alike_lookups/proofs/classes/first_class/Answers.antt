use Rattle.std.proofs.Common.{refl, arith}
use Rattle.std.proofs.lemmas.Option.{slice_get_within, slice_get_read}
use Rattle.alike_lookups.specs.Classes.{IsClassIn}
use Rattle.alike_lookups.proofs.Lists.{contains_at}
use Rattle.alike_lookups.proofs.Ups.{none_more}
use Rattle.alike_lookups.proofs.classes.first_class.Goals as goal

pub loop-d-preserved : goal.loop-d-preserved
loop-d-preserved c =
    let ds = c.args.supers.now in
    let i = c.loop-d.d-index in
    let d = c.d-item.result in
    none_more (IsClassIn c.args.w.now) ds i d c.loop-d.invariant (slice_get_read ds _ i d refl c.loop-d-test.true c.d-item.is) c.in_default.ensures.none

pub returns-clause-none : goal.returns-clause-none
returns-clause-none c s h =
    let ds = c.args.supers.now in
    let at = contains_at ds h.0 h.1 in
    let lt = slice_get_within ds at.0 h.0 at.1 in
    c.loop-d.invariant at.0 s h.0 (omega (arith, lt, c.loop-d-test.false)) at.1 h.2
