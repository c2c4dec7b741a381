use Rattle.std.proofs.Common.{◌<◌, [], ◌∷◌, ◌++◌, inl, refl, sym, ◌∙◌, subst, length}
use Rattle.std.specs.Prelude.{slice_set}
use Rattle.class_world.specs.Merged.{HasPlaces, IsCovered, IsPlaced}
use Rattle.class_world.proofs.Places as by
use Rattle.class_world.proofs.table.add.Goals as goal
use Rattle.class_world.proofs.table.add.Goals.{then-is_empty-via-then-is_empty, then-is_empty-via-else-is_empty+then-is_same, in-None, in-Some+else-is_empty+else-is_same+else-not-is_empty}

pub returns-then-is_empty-clause-takes : goal.returns-then-is_empty-clause-takes
returns-then-is_empty-clause-takes c = λ h.
    let is = c.requires.class in
    let old = c.args.types.now.items in
    let here : IsPlaced old c.args.places.now is.0 c.in-Some.other.now =
    subst (λ ts. IsPlaced ts c.args.places.now is.0 c.in-Some.other.now) c.as_slice.ensures.value
    (subst (λ g. IsPlaced c.as_slice.result.now c.args.places.now g c.in-Some.other.now) (c.class_of-g.ensures is.0 is.1 is.2) c.in-Some.ensures.some) in
    let covered : IsCovered old c.args.t = elim c.then-is_empty.branch [
      | then-is_empty-via-then-is_empty w ↦
          by.covered_bare old c.args.places.now is.0 is.1 c.args.t is.2 c.requires.placed c.in-Some.other.now here (sym (c.args_of.ensures is.0 is.1 is.2) ∙ by.empty_yes c.args_of.result.now w.if-is_empty.ensures)
      | then-is_empty-via-else-is_empty+then-is_same w ↦ by.covered_same old c.args.places.now is.0 is.1 c.args.t is.2 c.requires.placed c.in-Some.other.now here (w.if-is_same.ensures.0 refl)
    ] in
    inl (refl, covered)

pub returns-then-not-is_empty-clause-other : goal.returns-then-not-is_empty-clause-other
returns-then-not-is_empty-clause-other c = λ h.
    let is = c.requires.class in
    let old = c.args.types.now.items in
    let here : IsPlaced old c.args.places.now is.0 c.in-Some.other.now =
    subst (λ ts. IsPlaced ts c.args.places.now is.0 c.in-Some.other.now) c.as_slice.ensures.value
    (subst (λ g. IsPlaced c.as_slice.result.now c.args.places.now g c.in-Some.other.now) (c.class_of-g.ensures is.0 is.1 is.2) c.in-Some.ensures.some) in
    by.other_there old c.args.places.now is.0 is.1 c.args.t is.2 c.requires.placed c.in-Some.other.now here here.1 here.4
    (λ none. by.empty_no c.args_of-in-Some.result.now c.if-not-is_empty.ensures (c.args_of-in-Some.ensures is.0 here.1 here.4 ∙ none))
    (λ none. by.empty_no c.args_of.result.now c.if-is_empty.ensures (c.args_of.ensures is.0 is.1 is.2 ∙ none))
    (λ e. absurd (cc (c.if-is_same.ensures.1 e)))

pub bounds-places-g : goal.bounds-places-g
bounds-places-g c = let is = c.requires.class in subst (λ g. g < length c.args.places.now) (sym (c.class_of-g.ensures is.0 is.1 is.2)) is.3

pub returns-clause-placed : goal.returns-clause-placed
returns-clause-placed c = λ h.
    let is = c.requires.class in
    let old = c.args.types.now.items in
    let number = c.class_of-g.ensures is.0 is.1 is.2 in
    let value = c.as_slice.ensures.value in
    let made : HasPlaces (old ++ c.args.t ∷ []) (slice_set c.args.places.now is.0 (length old)) = elim c.match-placed.branch [
      | in-None w ↦
          by.placed_new old c.args.places.now is.0 is.1 c.args.t is.2 c.requires.placed
          (λ u there. w.in-None.ensures.none u (subst (λ g. IsPlaced c.as_slice.result.now c.args.places.now g u) (sym number) (subst (λ ts. IsPlaced ts c.args.places.now is.0 u) (sym value) there))) is.3
      | in-Some+else-is_empty+else-is_same+else-not-is_empty w ↦
          let u = w.in-Some.other.now in
          let here : IsPlaced old c.args.places.now is.0 u =
          subst (λ ts. IsPlaced ts c.args.places.now is.0 u) value (subst (λ g. IsPlaced c.as_slice.result.now c.args.places.now g u) number w.in-Some.ensures.some) in
          by.placed_again old c.args.places.now is.0 is.1 c.args.t is.2 c.requires.placed u here here.1 here.4
          (sym (w.args_of-in-Some.ensures is.0 here.1 here.4) ∙ by.empty_yes w.args_of-in-Some.result.now w.if-not-is_empty.ensures)
          (λ none. by.empty_no w.args_of.result.now w.if-is_empty.ensures (w.args_of.ensures is.0 is.1 is.2 ∙ none)) is.3
    ] in
    subst (λ ts. HasPlaces ts (slice_set c.args.places.now c.class_of-g.result c.len.result)) (sym c.in_ok-push.ensures.items)
    (subst (λ g. HasPlaces (old ++ c.args.t ∷ []) (slice_set c.args.places.now g c.len.result)) (sym number)
    (subst (λ n. HasPlaces (old ++ c.args.t ∷ []) (slice_set c.args.places.now is.0 n)) (sym (c.len.ensures ∙ c.args.types.now.ok.0)) made))
