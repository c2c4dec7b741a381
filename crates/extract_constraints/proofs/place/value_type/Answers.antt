use Rattle.extract_constraints.proofs.place.value_type.Goals as goal

pub returns : goal.returns
returns c =
    λ k told. c.read.ensures k.facts told.facts
