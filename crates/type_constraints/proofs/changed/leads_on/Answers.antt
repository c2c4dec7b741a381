use Rattle.std.proofs.Common.{sym, ap, ◌∙◌}
use Rattle.std.specs.Prelude.{not}
use Rattle.thrown_exceptions.proofs.Steps.{pair}
use Rattle.type_constraints.specs.Asked.{asked}
use Rattle.type_constraints.specs.Changed as ch
use Rattle.type_constraints.proofs.changed.leads_on.Goals as goal

pub returns-then-first : goal.returns-then-first
returns-then-first c =
    λ f are ts ties.
    let a = asked c.args.at.now f ts in
    ap not (c.in_ok-new_fits.ensures f are ts ties) ∙ sym (pair (λ b d. ch.leads_on a b d c.args.s.now c.args.t.now) _ _ _ _ c.if-first.true c.if-second.false)

pub returns-then-second-2 : goal.returns-then-second-2
returns-then-second-2 c =
    λ f are ts ties.
    let a = asked c.args.at.now f ts in
    ap not (c.in_ok-new_fits-2.ensures f are ts ties) ∙ sym (pair (λ b d. ch.leads_on a b d c.args.s.now c.args.t.now) _ _ _ _ c.if-first.false c.if-second-2.true)
