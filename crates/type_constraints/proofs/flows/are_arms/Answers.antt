use Rattle.std.proofs.Common.{◌∙◌}
use Rattle.java_core.specs.View.{plain}
use Rattle.thrown_exceptions.proofs.Forms.{ty_at}
use Rattle.thrown_exceptions.proofs.Steps.{ok_as, pair}
use Rattle.type_constraints.specs.Asked.{asked}
use Rattle.type_constraints.specs.Changed as ch
use Rattle.type_constraints.proofs.flows.are_arms.Goals as goal

pub returns : goal.returns
returns c =
    λ f are ts ties.
    let a = asked c.args.at.now f ts in
    ok_as c.arms_meet.result _ _
    (pair (λ b d. ch.arms_meet a b d c.args.yes.now.ty c.args.no.now.ty) _ _ _ _ (c.in_ok-first.ensures f are ts ties) (c.in_ok-second.ensures f are ts ties)
    ∙ pair (λ u v. ch.arms_meet a (ch.changed a (plain c.args.yes.now)) (ch.changed a (plain c.args.no.now)) u v) _ _ _ _ (ty_at c.args.yes.now) (ty_at c.args.no.now))
    (c.arms_meet.ensures f are ts ties)
