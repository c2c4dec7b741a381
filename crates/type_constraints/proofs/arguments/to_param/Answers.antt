use Rattle.java_core.specs.View.{plain}
use Rattle.thrown_exceptions.proofs.Steps.{ok_as, pair}
use Rattle.type_constraints.specs.Asked.{asked}
use Rattle.type_constraints.specs.Changed as ch
use Rattle.type_constraints.proofs.arguments.to_param.Goals as goal

pub returns : goal.returns
returns c =
    λ f are ts ties.
    let a = asked c.args.at.now f ts in
    ok_as c.to_type.result _ _
    (pair (λ b o. ch.flow_to a b o (plain c.args.x.now) c.args.first) _ _ _ _ c.is_param-to_changes.ensures c.in_ok-t.ensures)
    (c.to_type.ensures f are ts ties)
