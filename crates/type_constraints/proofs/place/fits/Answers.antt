use Rattle.type_constraints.proofs.place.fits.Goals as goal

pub returns : goal.returns
returns c = λ f are t ties. c.may_assign.ensures f are
