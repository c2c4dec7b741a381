use Rattle.std.proofs.Common.{sym, ap}
use Rattle.thrown_exceptions.proofs.Steps.{ok_as}
use Rattle.type_constraints.specs.Asked.{asked}
use Rattle.type_constraints.specs.Uses as us
use Rattle.type_constraints.proofs.receivers.found.Goals as goal

pub returns-in-Some : goal.returns-in-Some
returns-in-Some c =
    λ f are ts ties.
    let a = asked c.args.at.now f ts in
    ok_as c.answered.result _ _
    (sym (ap (λ o. us.found a c.args.u.now.node c.args.u.now.new.now c.args.u.now.old.now o c.args.u.now.method c.args.u.now.info.now c.args.first) c.in-Some.is))
    (c.answered.ensures f are ts ties)
