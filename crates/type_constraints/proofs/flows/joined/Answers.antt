use Rattle.std.proofs.Common.{sym, ap}
use Rattle.java_core.specs.View.{plain}
use Rattle.thrown_exceptions.proofs.Steps.{ok_as}
use Rattle.type_constraints.specs.Asked.{asked}
use Rattle.type_constraints.specs.Changed as ch
use Rattle.type_constraints.proofs.flows.joined.Goals as goal

pub returns-in-Text : goal.returns-in-Text
returns-in-Text c =
    λ f are ts ties.
    let a = asked c.args.at.now f ts in
    ok_as c.operands.result _ _
    (sym (ap (λ k. ch.joined a k (plain c.args.x.now) (plain c.args.y.now) c.args.first) c.in-Text.is))
    (c.operands.ensures f are ts ties)
