use Rattle.std.proofs.Common.{ap}
use Rattle.java_core.specs.View.{plains}
use Rattle.thrown_exceptions.proofs.Steps.{ok_as}
use Rattle.type_constraints.specs.Arguments as ar
use Rattle.type_constraints.specs.Asked.{asked}
use Rattle.type_constraints.proofs.arguments.to_method.Goals as goal

pub returns-in-Some : goal.returns-in-Some
returns-in-Some c =
    λ f are ts ties.
    let a = asked c.args.at.now f ts in
    ok_as c.to_known.result _ _
    (ap (λ o. ar.to_method a c.args.free c.args.t.now c.args.m o (plains c.args.xs.now) c.args.first) c.in-Some.ensures.value)
    (c.to_known.ensures f are ts ties)
