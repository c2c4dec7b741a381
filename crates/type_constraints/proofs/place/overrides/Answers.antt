use Rattle.type_facts.proofs.Orders.{same_test}
use Rattle.type_constraints.proofs.place.overrides.Goals as goal

pub returns : goal.returns
returns c =
    λ f are t ties. same_test c.overrides.result (t.overrides c.args.method c.args.other) _ (c.overrides.ensures c.args.at.now.q.world.now c.requires.members) (ties.overrides c.args.method c.args.other)
