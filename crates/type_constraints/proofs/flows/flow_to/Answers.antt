use Rattle.std.proofs.Common.{sym, ap}
use Rattle.std.specs.Option.{option_copied}
use Rattle.java_core.specs.View.{plain}
use Rattle.thrown_exceptions.proofs.Steps.{ok_as}
use Rattle.type_constraints.specs.Asked.{asked}
use Rattle.type_constraints.specs.Changed as ch
use Rattle.type_constraints.proofs.flows.flow_to.Goals as goal

pub returns-in-Some : goal.returns-in-Some
returns-in-Some c =
    λ f are ts ties.
    let a = asked c.args.at.now f ts in
    ok_as c.flow.result _ _
    (sym (ap (λ o. ch.flow_to a c.args.to_changes (option_copied o) (plain c.args.x.now) c.args.first) c.in-Some.is))
    (c.flow.ensures f are ts ties)
