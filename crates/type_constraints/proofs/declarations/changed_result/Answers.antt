use Rattle.std.proofs.Common.{sym, ap, ◌∙◌}
use Rattle.type_constraints.specs.declared.unmet.Constraint.TheVariants as kind
use Rattle.type_constraints.specs.Asked.{asked}
use Rattle.type_constraints.specs.Declarations as de
use Rattle.type_constraints.specs.Unmets.{unless}
use Rattle.type_constraints.proofs.declarations.changed_result.Goals as goal

pub returns : goal.returns
returns c =
    λ f are ts ties.
    let a = asked c.args.at.now f ts in
    c.unless.ensures ∙ ap (λ b. unless b c.args.node.id kind.Result c.args.first) (c.in_ok-gives.ensures f are ts ties ∙ ap (λ o. de.gives_for_all a o c.args.m c.args.info.now) (c.in_ok-own.ensures f are ts ties))
    ∙ ap (λ b. de.result b a c.args.m c.args.info.now c.args.node c.args.first) (sym c.if-not-is_result.false ∙ c.is_result.ensures)
