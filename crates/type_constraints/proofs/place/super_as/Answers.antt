use Rattle.type_constraints.proofs.place.super_as.Goals as goal

pub returns : goal.returns
returns c = λ f are t ties. c.super_as.ensures f are
