use Rattle.std.proofs.Common.{sym, ap, ◌∙◌}
use Rattle.std.specs.Prelude.{◌||◌}
use Rattle.type_constraints.proofs.receivers.is_one.Goals as goal

pub returns : goal.returns
returns c =
    λ f are ts ties.
    c.overrides.ensures f are ts ties ∙ ap (λ b. b || ts.overrides c.args.k c.args.m) (sym c.if-is_equal.false ∙ c.is_equal.ensures)
