use Rattle.std.proofs.Common.{ap, ◌∙◌}
use Rattle.std.specs.Prelude.{not}
use Rattle.type_constraints.specs.declared.unmet.Constraint.TheVariants as kind
use Rattle.type_constraints.specs.Unmets.{unless}
use Rattle.type_constraints.proofs.flows.thrown.Goals as goal

pub returns : goal.returns
returns c =
    λ f are ts ties.
    c.unless.ensures ∙ ap (λ b. unless (not b) c.args.node.id kind.Throws c.args.first) (c.in_ok-is_changed.ensures f are ts ties)
