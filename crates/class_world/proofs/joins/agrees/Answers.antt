use Rattle.std.proofs.Common.{◌≡◌, Some, refl, sym, subst}
use Rattle.std.specs.Prelude.{slice_get}
use Rattle.std.proofs.lemmas.Option.{slice_get_read}
use Rattle.class_world.specs.Meets.{AreRows}
use Rattle.class_world.proofs.Meets as by
use Rattle.class_world.proofs.joins.agrees.Goals as goal

pub returns-in_default-last_unsettled-clause-agree : goal.returns-in_default-last_unsettled-clause-agree
returns-in_default-last_unsettled-clause-agree c = λ yes.
    let w = c.args.w.now in
    let all = c.args.rows.now in
    let ds = c.args.supers.now in
    let d = c.index-supers-at.result in
    let at : slice_get ds c.args.at ≡ Some d = slice_get_read ds _ c.args.at d refl c.requires.within c.index-supers-at.is in
    let row = c.in-Some.ensures.row all.listed (subst (AreRows w all.listed) (sym c.as_slice.ensures) c.requires.rows.rows) in
    by.agree_next w c.requires.supers all.listed ds c.args.at d c.args.above.now c.in-Some.row.now c.loop.settled c.requires.rows.sequence c.requires.singles c.requires.agree at c.requires.above row c.loop.invariant.settled
    c.in_default-last_unsettled.ensures
