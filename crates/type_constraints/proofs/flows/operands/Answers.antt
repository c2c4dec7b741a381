use Rattle.std.proofs.Common.{ap}
use Rattle.java_core.specs.View.{plain}
use Rattle.thrown_exceptions.proofs.Steps.{ok_as}
use Rattle.type_constraints.specs.Asked.{asked}
use Rattle.type_constraints.specs.Changed as ch
use Rattle.type_constraints.proofs.flows.operands.Goals as goal

pub returns : goal.returns
returns c =
    λ f are ts ties.
    let a = asked c.args.at.now f ts in
    ok_as c.operand-2.result _ _
    (ap (ch.operand a (plain c.args.y.now) (plain c.args.x.now)) (c.in_ok-first.ensures f are ts ties))
    (c.operand-2.ensures f are ts ties)
