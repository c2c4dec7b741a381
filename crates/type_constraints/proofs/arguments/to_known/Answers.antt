use Rattle.std.proofs.Common.{sym, ap, ◌∙◌}
use Rattle.java_core.specs.View.{plains}
use Rattle.thrown_exceptions.proofs.Steps.{ok_as}
use Rattle.type_constraints.specs.Arguments as ar
use Rattle.type_constraints.specs.Asked.{asked}
use Rattle.type_constraints.proofs.arguments.to_known.Goals as goal

pub returns-then-branch : goal.returns-then-branch
returns-then-branch c =
    λ f are ts ties.
    let a = asked c.args.at.now f ts in
    ok_as c.to_several.result _ _
    (ap (λ b. ar.to_group b a c.args.free c.args.t.now c.args.m c.args.info.now (plains c.args.xs.now) c.args.first) (sym c.if-branch.true ∙ c.in_ok-is_several.ensures f are ts ties))
    (c.to_several.ensures f are ts ties)

pub returns : goal.returns
returns c =
    λ f are ts ties.
    let a = asked c.args.at.now f ts in
    ok_as c.to_one.result _ _
    (ap (λ b. ar.to_group b a c.args.free c.args.t.now c.args.m c.args.info.now (plains c.args.xs.now) c.args.first) (sym c.if-branch.false ∙ c.in_ok-is_several.ensures f are ts ties))
    (c.to_one.ensures f are ts ties)
