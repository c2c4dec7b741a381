use Rattle.extract_constraints.proofs.place.sees.Goals as goal

pub returns : goal.returns
returns c =
    λ k told. c.has_access.ensures k.facts told.facts
