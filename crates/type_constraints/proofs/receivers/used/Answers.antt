use Rattle.std.proofs.Common.{sym, ap, ◌∙◌}
use Rattle.thrown_exceptions.proofs.Steps.{ok_as, pair}
use Rattle.type_constraints.specs.Asked.{asked}
use Rattle.type_constraints.specs.Uses as us
use Rattle.type_constraints.proofs.receivers.used.Goals as goal

pub returns : goal.returns
returns c =
    λ f are ts ties.
    let a = asked c.args.at.now f ts in
    ok_as c.among.result _ _
    (pair (λ x y. us.among a c.args.u.now.node c.args.u.now.new.now c.args.u.now.old.now x y c.args.u.now.method c.args.u.now.info.now c.args.first) _ _ _ _ (c.like_it-new.ensures f are ts ties) (c.like_it-old.ensures f are ts ties) ∙ ap (λ b. us.used a c.args.u.now.node c.args.u.now.new.now c.args.u.now.old.now c.args.u.now.method c.args.u.now.info.now b c.args.first) (sym c.if-is_static.false))
    (c.among.ensures f are ts ties)
