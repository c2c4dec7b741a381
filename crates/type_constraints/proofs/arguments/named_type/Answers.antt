use Rattle.std.proofs.Common.{sym, ap}
use Rattle.thrown_exceptions.proofs.Steps.{ok_as}
use Rattle.type_constraints.specs.Arguments as ar
use Rattle.type_constraints.specs.Asked.{asked}
use Rattle.type_constraints.proofs.arguments.named_type.Goals as goal

pub returns-in-Nothing : goal.returns-in-Nothing
returns-in-Nothing c =
    λ f are ts ties.
    let a = asked c.args.at.now f ts in
    ok_as c.own_type.result _ _
    (sym (ap (ar.named_type a) c.in-Nothing.is))
    (c.own_type.ensures f are ts ties)

pub returns-in-Super : goal.returns-in-Super
returns-in-Super c =
    λ f are ts ties.
    let a = asked c.args.at.now f ts in
    ok_as c.super_type.result _ _
    (sym (ap (ar.named_type a) c.in-Super.is))
    (c.super_type.ensures f are ts ties)
