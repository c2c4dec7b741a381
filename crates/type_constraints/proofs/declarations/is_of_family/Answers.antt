use Rattle.std.proofs.Common.{ap, ◌∙◌}
use Rattle.std.specs.Prelude.{◌==◌}
use Rattle.std.specs.List.{list_any}
use Rattle.type_constraints.proofs.declarations.is_of_family.Goals as goal

pub returns : goal.returns
returns c = λ f are t ties. c.is_among.ensures ∙ ap (list_any (λ j. j == c.args.k)) (c.family.ensures f are t ties)
