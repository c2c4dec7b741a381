use Rattle.std.proofs.Common.{ap, ◌∙◌}
use Rattle.extract_constraints.specs.Groups as spec
use Rattle.extract_constraints.proofs.groups.is_of_family.Goals as goal

pub returns : goal.returns
returns c =
    λ k told. c.is_among.ensures ∙ ap (λ js. spec.is_among js c.args.j) (c.family.ensures k told)
