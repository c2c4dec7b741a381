use Rattle.type_constraints.proofs.place.field_named.Goals as goal

pub returns : goal.returns
returns c = λ f are t ties. c.field_named.ensures f are
