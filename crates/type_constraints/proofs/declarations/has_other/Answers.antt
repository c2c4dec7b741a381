use Rattle.std.proofs.Common.{sym, ap, ◌∙◌}
use Rattle.std.specs.Prelude.{◌||◌}
use Rattle.thrown_exceptions.proofs.Steps.{ok_as}
use Rattle.type_constraints.specs.Asked.{asked}
use Rattle.type_constraints.specs.Declarations as de
use Rattle.type_constraints.proofs.declarations.has_other.Goals as goal

pub returns-then-branch : goal.returns-then-branch
returns-then-branch c =
    λ f are ts ties.
    let a = asked c.args.at.now f ts in
    ap (λ b. b || de.has_double a c.args.m c.args.info.now) (sym c.if-branch.true ∙ c.in_ok-is_several.ensures f are ts ties)

pub returns : goal.returns
returns c =
    λ f are ts ties.
    let a = asked c.args.at.now f ts in
    ok_as c.has_double.result _ _
    (ap (λ b. b || de.has_double a c.args.m c.args.info.now) (sym c.if-branch.false ∙ c.in_ok-is_several.ensures f are ts ties))
    (c.has_double.ensures f are ts ties)
