use Rattle.std.proofs.Common.{sym}
use Rattle.thrown_exceptions.proofs.Steps.{ok_as, pair}
use Rattle.type_constraints.specs.Asked.{asked}
use Rattle.type_constraints.specs.Changed as ch
use Rattle.type_constraints.proofs.flows.arms_meet.Goals as goal

pub returns-then-first : goal.returns-then-first
returns-then-first c =
    λ f are ts ties.
    let a = asked c.args.at.now f ts in
    ok_as c.new_meets.result _ _
    (sym (pair (λ b d. ch.arms_meet a b d c.args.s.now c.args.t.now) _ _ _ _ c.if-first.true c.if-second.false))
    (c.new_meets.ensures f are ts ties)

pub returns-then-second-2 : goal.returns-then-second-2
returns-then-second-2 c =
    λ f are ts ties.
    let a = asked c.args.at.now f ts in
    ok_as c.new_meets-then-second-2.result _ _
    (sym (pair (λ b d. ch.arms_meet a b d c.args.s.now c.args.t.now) _ _ _ _ c.if-first.false c.if-second-2.true))
    (c.new_meets-then-second-2.ensures f are ts ties)
