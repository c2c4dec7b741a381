use Rattle.std.proofs.Common.{ap, sym, ◌∙◌}
use Rattle.std.specs.Prelude.{not, ◌&&◌}
use Rattle.extract_constraints.proofs.declarations.overrides_alone.Goals as goal

pub returns-then-overrides : goal.returns-then-overrides
returns-then-overrides c =
    λ k told.
    ap not (c.overrides-then-overrides.ensures k told) ∙ ap (λ b. b && not (k.ties.overrides c.args.j c.args.m)) (sym c.if-overrides.true ∙ c.overrides.ensures k told)

pub returns : goal.returns
returns c =
    λ k told.
    ap (λ b. b && not (k.ties.overrides c.args.j c.args.m)) (sym c.if-overrides.false ∙ c.overrides.ensures k told)
