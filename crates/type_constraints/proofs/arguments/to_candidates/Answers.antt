use Rattle.std.proofs.Common.{◌∙◌}
use Rattle.thrown_exceptions.proofs.Steps.{pair}
use Rattle.type_constraints.specs.declared.unmet.Constraint.TheVariants as kind
use Rattle.type_constraints.specs.Unmets.{unless}
use Rattle.type_constraints.proofs.Steps.{node_at}
use Rattle.type_constraints.proofs.arguments.to_candidates.Goals as goal

pub returns : goal.returns
returns c =
    λ f are ts ties.
    c.unless.ensures ∙ pair (λ b n. unless b n kind.Overload c.args.first) _ _ _ _ (c.in_ok-chosen.ensures f are ts ties) (node_at c.args.x.now)
