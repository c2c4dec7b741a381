use Rattle.std.proofs.Common.{ap}
use Rattle.java_core.specs.View.{method_plain}
use Rattle.thrown_exceptions.proofs.Steps.{ok_as}
use Rattle.type_constraints.specs.Asked.{asked}
use Rattle.type_constraints.specs.Declarations as de
use Rattle.type_constraints.proofs.declarations.declaration.Goals as goal

pub returns-in-Some : goal.returns-in-Some
returns-in-Some c =
    λ f are ts ties.
    let a = asked c.args.at.now f ts in
    ok_as c.known_declaration.result _ _
    (ap (λ o. de.declaration a (method_plain c.args.method.now) o c.args.first) c.in-Some.ensures.value)
    (c.known_declaration.ensures f are ts ties)
