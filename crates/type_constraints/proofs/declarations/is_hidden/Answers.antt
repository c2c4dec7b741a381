use Rattle.std.proofs.Common.{ap}
use Rattle.thrown_exceptions.proofs.Steps.{ok_as}
use Rattle.type_constraints.specs.Asked.{asked}
use Rattle.type_constraints.specs.Declarations as de
use Rattle.type_constraints.proofs.declarations.is_hidden.Goals as goal

pub returns-in-Some : goal.returns-in-Some
returns-in-Some c =
    λ f are ts ties.
    let a = asked c.args.at.now f ts in
    ok_as c.is_hidden_method.result _ _
    (ap (de.is_hidden_method a c.args.info.now) c.in-Some.ensures.value)
    (c.is_hidden_method.ensures f are ts ties)
