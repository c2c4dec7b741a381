use Rattle.std.proofs.Common.{sym, ap, ◌∙◌}
use Rattle.java_core.specs.View.{plain}
use Rattle.thrown_exceptions.proofs.Steps.{pair}
use Rattle.type_constraints.specs.declared.unmet.Constraint.TheVariants as kind
use Rattle.type_constraints.specs.Asked.{asked}
use Rattle.type_constraints.specs.Changed as ch
use Rattle.type_constraints.specs.Unmets.{unless}
use Rattle.type_constraints.proofs.Steps.{node_at}
use Rattle.type_constraints.proofs.flows.flow.Goals as goal

pub returns : goal.returns
returns c =
    λ f are ts ties.
    let a = asked c.args.at.now f ts in
    c.unless.ensures ∙ pair (λ b n. unless b n kind.Assign c.args.first) _ _ _ _ (c.in_ok-is_fit.ensures f are ts ties) (node_at c.args.x.now) ∙ ap (λ b. ch.flow a b c.args.t.now (plain c.args.x.now) c.args.first) (sym c.if-to_changes.false)
