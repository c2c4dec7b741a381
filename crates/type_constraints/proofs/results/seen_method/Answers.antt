use Rattle.std.proofs.Common.{ap}
use Rattle.type_facts.specs.Members.{seen_by}
use Rattle.thrown_exceptions.proofs.Steps.{ok_as}
use Rattle.type_constraints.proofs.results.seen_method.Goals as goal

pub returns : goal.returns
returns c = λ f are t ties. ok_as c.seen_by.result _ _ (ap (seen_by f c.args.t.now c.args.info.now.owner) c.is_static_method.ensures) (c.seen_by.ensures f are)
