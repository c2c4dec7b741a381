use Rattle.std.proofs.Common.{Some, ap}
use Rattle.std.specs.Option.{option_map}
use Rattle.java_core.specs.View.{stmt_plain}
use Rattle.thrown_exceptions.proofs.Steps.{ok_as}
use Rattle.type_constraints.specs.Asked.{asked}
use Rattle.type_constraints.specs.Constraints as co
use Rattle.type_constraints.proofs.program.in_method.Goals as goal

pub returns : goal.returns
returns c =
    λ f are ts ties.
    let a = asked c.args.at.now f ts in
    ok_as c.in_body_of.result _ _
    (ap (co.in_body (co.in_method_of a (Some c.args.method.now.method)) (option_map stmt_plain c.args.method.now.body)) (c.in_ok-first.ensures f are ts ties))
    (c.in_body_of.ensures f are ts ties)
