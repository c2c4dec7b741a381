use Rattle.std.proofs.Common.{ap, ◌∙◌}
use Rattle.java_core.specs.View.{plain}
use Rattle.thrown_exceptions.proofs.Steps.{ok_as, pair}
use Rattle.type_constraints.specs.Arguments as ar
use Rattle.type_constraints.specs.Asked.{asked}
use Rattle.type_constraints.proofs.arguments.method_takes_alike.Goals as goal

pub returns : goal.returns
returns c =
    λ f are ts ties.
    let a = asked c.args.at.now f ts in
    ok_as c.takes_alike.result _ _
    (ap (ar.takes_alike a (plain c.args.x.now)) (c.in_ok-param.ensures ∙ pair (λ s us. ar.param_seen s us c.args.index) _ _ _ _ (c.in_ok-seen.ensures f are ts ties) c.as_slice.ensures))
    (c.takes_alike.ensures f are ts ties)
