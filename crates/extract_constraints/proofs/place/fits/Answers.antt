use Rattle.extract_constraints.proofs.place.fits.Goals as goal

pub returns : goal.returns
returns c =
    λ k told. c.may_assign.ensures k.facts told.facts
