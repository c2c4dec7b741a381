use Rattle.std.proofs.Common.{sym, ap, ◌∙◌}
use Rattle.std.specs.Prelude.{not}
use Rattle.thrown_exceptions.proofs.Steps.{pair}
use Rattle.type_constraints.specs.declared.unmet.Constraint.TheVariants as kind
use Rattle.type_constraints.specs.Asked.{asked}
use Rattle.type_constraints.specs.Declarations as de
use Rattle.type_constraints.specs.Unmets.{unless}
use Rattle.type_constraints.proofs.declarations.changed_param.Goals as goal

pub returns : goal.returns
returns c =
    λ f are ts ties.
    let a = asked c.args.at.now f ts in
    c.unless.ensures
    ∙ pair (λ b s. unless (not b) c.args.node.id kind.Overload s) _ _ _ _ (c.in_ok-has_other.ensures f are ts ties) (c.unless-first.ensures ∙ ap (λ b. unless (not b) c.args.node.id kind.Override c.args.first) (c.stays.ensures f are ts ties))
    ∙ ap (λ b. de.changed_param b a c.args.m c.args.info.now c.args.node c.args.first) (sym c.if-not-is_param.false ∙ c.is_param.ensures)
