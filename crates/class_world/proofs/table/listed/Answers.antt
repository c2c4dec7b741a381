use Rattle.std.proofs.Common.{sym, subst, [], ◌∷◌}
use Rattle.std.specs.Prelude.{slice_set}
use Rattle.class_world.specs.Merged.{HasPlaces}
use Rattle.class_world.proofs.Places.{one_placed}
use Rattle.class_world.proofs.table.listed.Goals as goal

pub returns-clause-placed : goal.returns-clause-placed
returns-clause-placed c =
    let is = c.requires in
    let g = c.class_of.ensures is.0 is.1 is.2 in
    subst (λ ts. HasPlaces ts (slice_set c.args.places.now c.class_of.result 0)) (sym c.in_ok-vec.ensures.items)
    (subst (λ n. HasPlaces (c.args.t ∷ []) (slice_set c.args.places.now n 0)) (sym g) (one_placed is.0 is.1 c.args.t c.args.places.now is.2 is.3))
