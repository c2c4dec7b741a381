use Rattle.std.proofs.Common.{◌∙◌}
use Rattle.std.specs.Prelude.{not}
use Rattle.thrown_exceptions.proofs.Steps.{pair}
use Rattle.type_constraints.specs.declared.unmet.Constraint.TheVariants as kind
use Rattle.type_constraints.specs.Unmets.{unless}
use Rattle.type_constraints.proofs.declarations.param_at.Goals as goal

pub returns : goal.returns
returns c =
    λ f are ts ties.
    c.unless.ensures ∙ pair (λ b s. unless (not b) c.args.x.now.node.id kind.Overload s) _ _ _ _ (c.in_ok-hiding.ensures f are ts ties) (c.in_ok-first.ensures f are ts ties)
