use Rattle.std.proofs.Common.{sym, ap, ◌∙◌}
use Rattle.java_core.specs.View.{plain, var_plain}
use Rattle.thrown_exceptions.proofs.Steps.{ok_as}
use Rattle.type_constraints.specs.Asked.{asked}
use Rattle.type_constraints.specs.Changed as ch
use Rattle.type_constraints.proofs.flows.for_each.Goals as goal

pub returns-then-branch : goal.returns-then-branch
returns-then-branch c =
    λ f are ts ties.
    let a = asked c.args.at.now f ts in
    ok_as c.walked.result _ _
    (ap (λ b. ch.walked_over a (var_plain c.args.var.now) (plain c.args.x.now) b c.args.first) (sym c.if-branch.true ∙ c.in_ok-changed.ensures f are ts ties))
    (c.walked.ensures f are ts ties)

pub returns : goal.returns
returns c =
    λ f are ts ties.
    let a = asked c.args.at.now f ts in
    ap (λ b. ch.walked_over a (var_plain c.args.var.now) (plain c.args.x.now) b c.args.first) (sym c.if-branch.false ∙ c.in_ok-changed.ensures f are ts ties)
