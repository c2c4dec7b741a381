use Rattle.std.proofs.Common.{sym, ap, ◌∙◌}
use Rattle.std.specs.Prelude.{◌&&◌}
use Rattle.extract_constraints.proofs.groups.is_alike.Goals as goal

pub returns-then-is_below : goal.returns-then-is_below
returns-then-is_below c =
    λ k told.
    c.is_below-then-is_below.ensures k told ∙ ap (λ b. b && k.facts.sub c.args.t.now c.args.s.now) (sym c.if-is_below.true ∙ c.is_below.ensures k told)

pub returns : goal.returns
returns c =
    λ k told.
    ap (λ b. b && k.facts.sub c.args.t.now c.args.s.now) (sym c.if-is_below.false ∙ c.is_below.ensures k told)
