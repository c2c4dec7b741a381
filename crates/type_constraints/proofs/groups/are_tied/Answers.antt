use Rattle.std.proofs.Common.{sym, ap, ◌∙◌}
use Rattle.std.specs.Prelude.{◌||◌}
use Rattle.type_constraints.proofs.groups.are_tied.Goals as goal

pub returns-then-overrides : goal.returns-then-overrides
returns-then-overrides c =
    λ f are ts ties.
    ap (λ b. b || ts.overrides c.args.k c.args.m) (sym c.if-overrides.true ∙ c.overrides.ensures f are ts ties)
    ∙ ap (λ b. b || ts.overrides c.args.m c.args.k || ts.overrides c.args.k c.args.m) (sym c.if-is_equal.false ∙ c.is_equal.ensures)

pub returns : goal.returns
returns c =
    λ f are ts ties.
    c.overrides-2.ensures f are ts ties ∙ ap (λ b. b || ts.overrides c.args.k c.args.m) (sym c.if-overrides.false ∙ c.overrides.ensures f are ts ties)
    ∙ ap (λ b. b || ts.overrides c.args.m c.args.k || ts.overrides c.args.k c.args.m) (sym c.if-is_equal.false ∙ c.is_equal.ensures)
