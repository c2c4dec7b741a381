use Rattle.std.proofs.Common.{sym, ap}
use Rattle.std.specs.Option.{option_map}
use Rattle.java_core.specs.View.{stmt_plain}
use Rattle.thrown_exceptions.proofs.Steps.{ok_as}
use Rattle.type_constraints.specs.Asked.{asked}
use Rattle.type_constraints.specs.Constraints as co
use Rattle.type_constraints.proofs.program.in_body.Goals as goal

pub returns-in-Some : goal.returns-in-Some
returns-in-Some c =
    λ f are ts ties.
    let a = asked c.args.at.now f ts in
    ok_as c.walk.result _ _
    (sym (ap (λ o. co.in_body a (option_map stmt_plain o) c.args.first) c.in-Some.is))
    (c.walk.ensures f are ts ties)
