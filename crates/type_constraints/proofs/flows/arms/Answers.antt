use Rattle.std.proofs.Common.{ap, ◌∙◌}
use Rattle.type_constraints.specs.declared.unmet.Constraint.TheVariants as kind
use Rattle.type_constraints.specs.Unmets.{unless}
use Rattle.type_constraints.proofs.flows.arms.Goals as goal

pub returns : goal.returns
returns c =
    λ f are ts ties.
    c.unless.ensures ∙ ap (λ b. unless b c.args.node.id kind.Arm c.args.first) (c.in_ok-meet.ensures f are ts ties)
