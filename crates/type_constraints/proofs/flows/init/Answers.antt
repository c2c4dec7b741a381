use Rattle.std.proofs.Common.{sym, ap}
use Rattle.java_core.specs.View.{plain}
use Rattle.thrown_exceptions.proofs.Steps.{ok_as}
use Rattle.type_constraints.specs.Asked.{asked}
use Rattle.type_constraints.specs.Changed as ch
use Rattle.type_constraints.proofs.flows.init.Goals as goal

pub returns : goal.returns
returns c =
    λ f are ts ties.
    let a = asked c.args.at.now f ts in
    ok_as c.flow.result _ _
    (ap (λ b. ch.init a b c.args.t.now (plain c.args.x.now) c.args.first) (sym c.if-to_changes.false))
    (c.flow.ensures f are ts ties)
