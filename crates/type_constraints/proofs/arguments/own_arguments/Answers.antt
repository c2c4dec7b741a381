use Rattle.std.proofs.Common.{false, sym, ap, ◌∙◌}
use Rattle.java_core.specs.View.{plains}
use Rattle.thrown_exceptions.proofs.Steps.{ok_as}
use Rattle.type_constraints.specs.Arguments as ar
use Rattle.type_constraints.specs.Asked.{asked}
use Rattle.type_constraints.proofs.arguments.own_arguments.Goals as goal

pub returns-then-branch : goal.returns-then-branch
returns-then-branch c =
    λ f are ts ties.
    let a = asked c.args.at.now f ts in
    ok_as c.to_own.result _ _
    (ap (λ b. ar.arguments_if b a false (ar.own_type a) c.args.m (plains c.args.xs.now) c.args.first) (sym c.if-branch.true ∙ c.in_ok-some_changed.ensures f are ts ties))
    (c.to_own.ensures f are ts ties)

pub returns : goal.returns
returns c =
    λ f are ts ties.
    let a = asked c.args.at.now f ts in
    ap (λ b. ar.arguments_if b a false (ar.own_type a) c.args.m (plains c.args.xs.now) c.args.first) (sym c.if-branch.false ∙ c.in_ok-some_changed.ensures f are ts ties)
