use Rattle.std.proofs.Common.{sym, ap, ◌∙◌}
use Rattle.std.specs.Prelude.{◌&&◌}
use Rattle.type_constraints.specs.Uses as us
use Rattle.type_constraints.proofs.receivers.may_answer.Goals as goal

pub returns-then-sees : goal.returns-then-sees
returns-then-sees c =
    λ f are ts ties.
    c.is_one.ensures f are ts ties ∙ ap (λ b. b && us.is_one ts c.args.m c.args.k) (sym c.if-sees.true ∙ c.sees.ensures f are ts ties)

pub returns : goal.returns
returns c =
    λ f are ts ties.
    ap (λ b. b && us.is_one ts c.args.m c.args.k) (sym c.if-sees.false ∙ c.sees.ensures f are ts ties)
