use Rattle.std.proofs.Common.{ap, ◌∙◌}
use Rattle.extract_constraints.specs.Groups as spec
use Rattle.extract_constraints.proofs.groups.super_type.Goals as goal

pub returns : goal.returns
returns c =
    λ k told. c.type_or_null.ensures ∙ ap spec.type_or_null c.in_ok-above.ensures
