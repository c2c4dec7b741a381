use Rattle.std.proofs.Common.{◌∙◌}
use Rattle.class_places.proofs.Steps.{pair}
use Rattle.extract_constraints.specs.Groups as spec
use Rattle.extract_constraints.proofs.groups.erase_alike.Goals as goal

pub returns : goal.returns
returns c =
    λ k told. c.is_alike.ensures k told ∙ pair (spec.is_alike k) _ _ _ _ c.in_ok-s.ensures c.in_ok-t.ensures
