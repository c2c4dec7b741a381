use Rattle.std.proofs.Common.{ap}
use Rattle.thrown_exceptions.proofs.Steps.{ok_as}
use Rattle.type_constraints.specs.Asked.{asked}
use Rattle.type_constraints.specs.Declarations as de
use Rattle.type_constraints.proofs.declarations.have_one_erasure_with.Goals as goal

pub returns-in-Some : goal.returns-in-Some
returns-in-Some c =
    λ f are ts ties.
    let a = asked c.args.at.now f ts in
    ok_as c.have_one_erasure.result _ _
    (ap (de.have_one_erasure_with a c.args.info.now) c.in-Some.ensures.value)
    (c.have_one_erasure.ensures f are ts ties)
