use Rattle.java_core.specs.View.{plain}
use Rattle.thrown_exceptions.proofs.Forms.{ty_at}
use Rattle.thrown_exceptions.proofs.Steps.{ok_as, pair}
use Rattle.type_constraints.specs.Asked.{asked}
use Rattle.type_constraints.specs.Changed as ch
use Rattle.type_constraints.proofs.exprs.assigned.Goals as goal

pub returns : goal.returns
returns c =
    λ f are ts ties.
    let a = asked c.args.at.now f ts in
    ok_as c.flow.result _ _
    (pair (λ b u. ch.flow a b u (plain c.args.from.now) c.args.first) _ _ _ _ (c.in_ok-to_changes.ensures f are ts ties) (ty_at c.args.to.now))
    (c.flow.ensures f are ts ties)
