use Rattle.extract_constraints.proofs.place.methods_named.Goals as goal

pub returns : goal.returns
returns c =
    λ k told. c.methods_named.ensures k.facts told.facts
