use Rattle.std.proofs.Common.{sym, ap, ◌∙◌}
use Rattle.std.specs.Prelude.{◌||◌}
use Rattle.extract_constraints.proofs.receivers.is_one.Goals as goal

pub returns : goal.returns
returns c =
    λ k told.
    c.overrides.ensures k told ∙ ap (λ b. b || k.ties.overrides c.args.m c.args.j) (sym c.if-is_equal.false ∙ c.is_equal.ensures)
