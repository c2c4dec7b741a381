use Rattle.std.proofs.Common.{ap}
use Rattle.thrown_exceptions.proofs.Steps.{ok_as}
use Rattle.type_constraints.specs.Asked.{asked}
use Rattle.type_constraints.specs.Uses as us
use Rattle.type_constraints.proofs.receivers.used_on.Goals as goal

pub returns-in-Some : goal.returns-in-Some
returns-in-Some c =
    λ f are ts ties.
    let a = asked c.args.at.now f ts in
    ok_as c.used_known.result _ _
    (ap (λ o. us.used_known a c.args.node c.args.old.now c.args.method o c.args.first) c.in-Some.ensures.value)
    (c.used_known.ensures f are ts ties)
