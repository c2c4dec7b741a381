use Rattle.java_core.specs.View.{plains}
use Rattle.thrown_exceptions.proofs.Forms.{ty_at}
use Rattle.thrown_exceptions.proofs.Steps.{ok_as, pair}
use Rattle.type_constraints.specs.Arguments as ar
use Rattle.type_constraints.specs.Asked.{asked}
use Rattle.type_constraints.proofs.exprs.called.Goals as goal

pub returns : goal.returns
returns c =
    λ f are ts ties.
    let a = asked c.args.at.now f ts in
    ok_as c.arguments.result _ _
    (pair (λ u s. ar.arguments a c.args.simple u c.args.method (plains c.args.args.now) s) _ _ _ _ (ty_at c.args.of.now) (c.in_ok-first.ensures f are ts ties))
    (c.arguments.ensures f are ts ties)
