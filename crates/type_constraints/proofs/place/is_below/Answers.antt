use Rattle.type_constraints.proofs.place.is_below.Goals as goal

pub returns : goal.returns
returns c = λ f are t ties. c.is_below.ensures f are
