use Rattle.extract_constraints.proofs.place.is_below.Goals as goal

pub returns : goal.returns
returns c =
    λ k told. c.is_below.ensures k.facts told.facts
