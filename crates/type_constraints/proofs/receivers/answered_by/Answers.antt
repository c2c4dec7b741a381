use Rattle.std.proofs.Common.{ap, ◌∙◌}
use Rattle.thrown_exceptions.proofs.Steps.{pair}
use Rattle.type_constraints.specs.declared.unmet.Constraint.TheVariants as kind
use Rattle.type_constraints.specs.Unmets.{unless}
use Rattle.type_constraints.proofs.receivers.answered_by.Goals as goal

pub returns : goal.returns
returns c =
    λ f are ts ties.
    c.unless.ensures ∙ pair (λ b s. unless b c.args.u.now.node.id kind.Throws s) _ _ _ _ (c.in_ok-throws.ensures f are ts ties) (c.unless-first.ensures ∙ ap (λ b. unless b c.args.u.now.node.id kind.Result c.args.first) (c.in_ok-gives.ensures f are ts ties))
