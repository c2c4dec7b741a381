use Rattle.std.proofs.Common.{ap}
use Rattle.thrown_exceptions.proofs.Steps.{ok_as}
use Rattle.type_constraints.specs.Asked.{asked}
use Rattle.type_constraints.specs.Declarations as de
use Rattle.type_constraints.proofs.declarations.gives_for.Goals as goal

pub returns-in-Some : goal.returns-in-Some
returns-in-Some c =
    λ f are ts ties.
    let a = asked c.args.at.now f ts in
    ok_as c.gives_for_known.result _ _
    (ap (de.gives_for a c.args.t.now c.args.m c.args.info.now c.args.k) c.in-Some.ensures.value)
    (c.gives_for_known.ensures f are ts ties)
