use Rattle.std.proofs.Common.{ap}
use Rattle.java_core.specs.View.{plain}
use Rattle.thrown_exceptions.proofs.Steps.{ok_as}
use Rattle.type_constraints.specs.Arguments as ar
use Rattle.type_constraints.specs.Asked.{asked}
use Rattle.type_constraints.proofs.arguments.known_takes_alike.Goals as goal

pub returns-in-Some : goal.returns-in-Some
returns-in-Some c =
    λ f are ts ties.
    let a = asked c.args.at.now f ts in
    ok_as c.method_takes_alike.result _ _
    (ap (ar.known_takes_alike a c.args.t.now c.args.index (plain c.args.x.now)) c.in-Some.ensures.value)
    (c.method_takes_alike.ensures f are ts ties)
