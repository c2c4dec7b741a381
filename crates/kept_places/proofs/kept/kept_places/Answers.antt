use Rattle.kept_places.proofs.Shortest.{ok_kept}
use Rattle.kept_places.proofs.kept.kept_places.Goals as goal

pub returns : goal.returns
returns c =
    ok_kept c.args.links.now c.in_ok-found.found.items c.as_slice.result.now c.as_slice-2.result.now c.are_shortest.result c.kept_of.result c.are_shortest.ensures c.if-not-are_shortest.false
    c.as_slice.ensures.value c.as_slice-2.ensures.value c.kept_of.ensures
