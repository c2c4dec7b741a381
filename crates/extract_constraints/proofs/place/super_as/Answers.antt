use Rattle.extract_constraints.proofs.place.super_as.Goals as goal

pub returns : goal.returns
returns c =
    λ k told. c.super_as.ensures k.facts told.facts
