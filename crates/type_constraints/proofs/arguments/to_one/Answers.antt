use Rattle.java_core.specs.View.{plains}
use Rattle.thrown_exceptions.proofs.Steps.{ok_as, pair}
use Rattle.type_constraints.specs.Arguments as ar
use Rattle.type_constraints.specs.Asked.{asked}
use Rattle.type_constraints.proofs.arguments.to_one.Goals as goal

pub returns : goal.returns
returns c =
    λ f are ts ties.
    let a = asked c.args.at.now f ts in
    ok_as c.to_params.result _ _
    (pair (λ s us. ar.to_params a s us c.args.m 0 (plains c.args.xs.now) c.args.first) _ _ _ _ (c.in_ok-seen.ensures f are ts ties) c.as_slice.ensures)
    (c.to_params.ensures f are ts ties)
