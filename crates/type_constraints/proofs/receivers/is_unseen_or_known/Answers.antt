use Rattle.std.proofs.Common.{sym, ap, ◌∙◌}
use Rattle.std.specs.Prelude.{◌||◌, not}
use Rattle.type_constraints.specs.Asked.{asked}
use Rattle.type_constraints.specs.Uses as us
use Rattle.type_constraints.proofs.receivers.is_unseen_or_known.Goals as goal

pub returns-then-sees : goal.returns-then-sees
returns-then-sees c =
    λ f are ts ties.
    let a = asked c.args.at.now f ts in
    c.is_known.ensures f are ts ties ∙ ap (λ b. not b || us.is_known a c.args.old.now c.args.k) (sym c.if-sees.true ∙ c.sees.ensures f are ts ties)

pub returns : goal.returns
returns c =
    λ f are ts ties.
    let a = asked c.args.at.now f ts in
    ap (λ b. not b || us.is_known a c.args.old.now c.args.k) (sym c.if-sees.false ∙ c.sees.ensures f are ts ties)
