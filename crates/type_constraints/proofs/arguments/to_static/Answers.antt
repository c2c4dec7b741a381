use Rattle.java_core.specs.View.{plains}
use Rattle.type_kinds.specs.Members.{method_at}
use Rattle.thrown_exceptions.proofs.Steps.{ok_as, pair}
use Rattle.type_constraints.specs.Arguments as ar
use Rattle.type_constraints.specs.Asked.{asked}
use Rattle.type_constraints.proofs.arguments.to_static.Goals as goal

pub returns : goal.returns
returns c =
    λ f are ts ties.
    let a = asked c.args.at.now f ts in
    ok_as c.to_method.result _ _
    (pair (λ b o. ar.to_method a b o c.args.m (method_at c.args.at.now.q.world.now c.args.m) (plains c.args.xs.now) c.args.first) _ _ _ _ c.is_simple.ensures (c.in_ok-t.ensures f are ts ties))
    (c.to_method.ensures f are ts ties)
