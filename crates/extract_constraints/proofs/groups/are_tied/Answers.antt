use Rattle.std.proofs.Common.{sym, ap, ◌∙◌}
use Rattle.std.specs.Prelude.{◌||◌}
use Rattle.extract_constraints.proofs.groups.are_tied.Goals as goal

pub returns-then-overrides : goal.returns-then-overrides
returns-then-overrides c =
    λ k told.
    ap (λ b. b || k.ties.overrides c.args.j c.args.m) (sym c.if-overrides.true ∙ c.overrides.ensures k told)
    ∙ ap (λ b. b || k.ties.overrides c.args.m c.args.j || k.ties.overrides c.args.j c.args.m) (sym c.if-is_equal.false ∙ c.is_equal.ensures)

pub returns : goal.returns
returns c =
    λ k told.
    c.overrides-2.ensures k told ∙ ap (λ b. b || k.ties.overrides c.args.j c.args.m) (sym c.if-overrides.false ∙ c.overrides.ensures k told)
    ∙ ap (λ b. b || k.ties.overrides c.args.m c.args.j || k.ties.overrides c.args.j c.args.m) (sym c.if-is_equal.false ∙ c.is_equal.ensures)
