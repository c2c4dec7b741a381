use Rattle.std.proofs.Common.{sym, ap, ◌∙◌}
use Rattle.java_core.specs.View.{plain}
use Rattle.thrown_exceptions.proofs.Steps.{ok_as, pair}
use Rattle.type_constraints.specs.Asked.{asked}
use Rattle.type_constraints.specs.Changed as ch
use Rattle.type_constraints.proofs.flows.given.Goals as goal

pub returns-in-Some : goal.returns-in-Some
returns-in-Some c =
    λ f are ts ties.
    let a = asked c.args.at.now f ts in
    ok_as c.flow_to.result _ _
    (pair (λ b o. ch.flow_to a b o (plain c.args.x.now) c.args.first) _ _ _ _ c.is_result.ensures c.result_of.ensures ∙ sym (ap (λ o. ch.given a o (plain c.args.x.now) c.args.first) c.in-Some.is))
    (c.flow_to.ensures f are ts ties)
