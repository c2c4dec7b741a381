use Rattle.std.proofs.Common.{ap}
use Rattle.thrown_exceptions.proofs.Steps.{ok_as}
use Rattle.type_constraints.specs.Asked.{asked}
use Rattle.type_constraints.specs.Uses as us
use Rattle.type_constraints.proofs.receivers.has_field.Goals as goal

pub returns-in-Some : goal.returns-in-Some
returns-in-Some c =
    λ f are ts ties.
    let a = asked c.args.at.now f ts in
    ok_as c.has_known_field.result _ _
    (ap (us.has_field a c.args.old.now c.args.field) c.in-Some.ensures.value)
    (c.has_known_field.ensures f are ts ties)
