use Rattle.std.proofs.Common.{ap, ◌∙◌}
use Rattle.java_core.specs.View.{plain, var_plain}
use Rattle.type_kinds.specs.Kinds.{element}
use Rattle.thrown_exceptions.proofs.Forms.{ty_at}
use Rattle.thrown_exceptions.proofs.Steps.{pair}
use Rattle.type_constraints.specs.declared.unmet.Constraint.TheVariants as kind
use Rattle.type_constraints.specs.Asked.{asked}
use Rattle.type_constraints.specs.Changed as ch
use Rattle.type_constraints.specs.Unmets.{unless}
use Rattle.type_constraints.proofs.Steps.{node_at}
use Rattle.type_constraints.proofs.flows.walked.Goals as goal

pub returns-in_ok-is_fit-in-Some : goal.returns-in_ok-is_fit-in-Some
returns-in_ok-is_fit-in-Some c =
    λ f are ts ties.
    let a = asked c.args.at.now f ts in
    c.unless.ensures ∙ pair (λ b n. unless b n kind.Assign c.args.first) _ _ _ _ (c.in_ok-is_fit-in-Some.ensures f are ts ties) (node_at c.args.x.now)
    ∙ ap (λ o. ch.walked a (var_plain c.args.var.now) (plain c.args.x.now) o c.args.first) (c.in-Some.ensures ∙ ap element (ty_at c.args.x.now))

pub returns-in_ok-same-in-None : goal.returns-in_ok-same-in-None
returns-in_ok-same-in-None c =
    λ f are ts ties.
    let a = asked c.args.at.now f ts in
    c.unless-in-None.ensures ∙ pair (λ b n. unless b n kind.Member c.args.first) _ _ _ _ (c.in_ok-same-in-None.ensures f are ts ties ∙ ap (ch.walks_alike a c.args.at.now.q.world.now.walk) (ty_at c.args.x.now)) (node_at c.args.x.now)
    ∙ ap (λ o. ch.walked a (var_plain c.args.var.now) (plain c.args.x.now) o c.args.first) (c.in-None.ensures ∙ ap element (ty_at c.args.x.now))
