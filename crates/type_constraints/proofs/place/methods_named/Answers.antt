use Rattle.type_constraints.proofs.place.methods_named.Goals as goal

pub returns : goal.returns
returns c = λ f are t ties. c.methods_named.ensures f are
