use Rattle.std.proofs.Common.{ap}
use Rattle.java_core.specs.View.{plain}
use Rattle.thrown_exceptions.proofs.Steps.{ok_as}
use Rattle.type_constraints.specs.Asked.{asked}
use Rattle.type_constraints.specs.Changed as ch
use Rattle.type_constraints.proofs.stmts.throws.Goals as goal

pub returns : goal.returns
returns c =
    λ f are ts ties.
    let a = asked c.args.at.now f ts in
    ok_as c.thrown.result _ _
    (ap (ch.thrown a c.args.node (plain c.args.x.now)) (c.in_ok-first.ensures f are ts ties))
    (c.thrown.ensures f are ts ties)
