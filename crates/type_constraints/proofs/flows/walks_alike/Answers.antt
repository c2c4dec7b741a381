use Rattle.std.proofs.Common.{sym, ap}
use Rattle.thrown_exceptions.proofs.Steps.{ok_as}
use Rattle.type_constraints.specs.Asked.{asked}
use Rattle.type_constraints.specs.Changed as ch
use Rattle.type_constraints.proofs.flows.walks_alike.Goals as goal

pub returns-in-Some : goal.returns-in-Some
returns-in-Some c =
    λ f are ts ties.
    let a = asked c.args.at.now f ts in
    ok_as c.is_same_iterable.result _ _
    (sym (ap (λ o. ch.walks_alike a o c.args.t.now) c.in-Some.is))
    (c.is_same_iterable.ensures f are ts ties)
