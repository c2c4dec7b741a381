use Rattle.type_constraints.proofs.place.sees.Goals as goal

pub returns : goal.returns
returns c = λ f are t ties. c.has_access.ensures f are
