use Rattle.type_facts.proofs.Orders.{same_test}
use Rattle.extract_constraints.proofs.place.overrides.Goals as goal

pub returns : goal.returns
returns c =
    λ k told. same_test c.overrides.result (k.ties.overrides c.args.method c.args.other) _ (c.overrides.ensures c.args.at.now.reader.q.world.now c.requires.members) (told.ties.overrides c.args.method c.args.other)
