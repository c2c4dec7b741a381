use Rattle.std.proofs.Common.{◌≡◌, false, get_or}
use Rattle.std.proofs.lemmas.Option.{slice_get-get_or}
use Rattle.overrides.specs.declared.links.Link.{Link}
use Rattle.overrides.specs.Tables.{HasRow}
use Rattle.overrides.proofs.Places.{items_all, items_more}
use Rattle.overrides.proofs.closed.lacks_third.Goals as goal
use Rattle.overrides.proofs.closed.lacks_third.Goals.{else-not-link-via-then-not-link+else-lacks_row, else-not-link-via-else-not-link}

none : Link
none = record { lower = 0; upper = 0; free = false }

pub loop-link-preserved : goal.loop-link-preserved
unfolding none
loop-link-preserved c =
    let links = c.args.links.now in
    let table = c.args.table.now in
    let i = c.loop-link.link-index in
    let x = get_or links i none in
    items_more (λ (y : Link). y.free ≡ false → HasRow table y.lower y.upper) links i x c.loop-link.invariant (slice_get-get_or links i none c.loop-link-test.true)
    (λ bound. elim c.else-not-link.branch [
      | else-not-link-via-then-not-link+else-lacks_row w ↦ w.lacks_row.ensures.whole w.if-lacks_row.false
      | else-not-link-via-else-not-link w ↦ absurd (cc (bound, w.if-not-link.false))
    ])

pub returns : goal.returns
returns c e =
    items_all (λ (y : Link). y.free ≡ false → HasRow c.args.table.now y.lower y.upper) c.args.links.now c.loop-link.link-index c.loop-link.invariant c.loop-link-test.false
