use Rattle.type_names.proofs.paths.Packages.number_of.Goals as goal

pub returns : goal.returns
returns c = rw (← c.self.view_is) (c.place_of.ensures c.self.inside.paths c.self.invariant)
