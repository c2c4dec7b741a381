use Rattle.thrown_exceptions.proofs.Steps.{ok_as, pair}
use Rattle.type_constraints.specs.Asked.{asked}
use Rattle.type_constraints.specs.Uses as us
use Rattle.type_constraints.proofs.receivers.used_known.Goals as goal

pub returns : goal.returns
returns c =
    λ f are ts ties.
    let a = asked c.args.at.now f ts in
    ok_as c.used.result _ _
    (pair (λ n b. us.used a c.args.node n c.args.old.now c.args.method c.args.info.now b c.args.first) _ _ _ _ c.in_ok-new.ensures c.is_static_method.ensures)
    (c.used.ensures f are ts ties)
