use Rattle.std.proofs.Common.{sym, ap, ◌∙◌}
use Rattle.std.specs.Prelude.{◌&&◌}
use Rattle.type_constraints.proofs.flows.is_alike.Goals as goal

pub returns-then-is_below : goal.returns-then-is_below
returns-then-is_below c =
    λ f are ts ties.
    c.is_below-then-is_below.ensures f are ts ties ∙ ap (λ b. b && f.sub c.args.t.now c.args.s.now) (sym c.if-is_below.true ∙ c.is_below.ensures f are ts ties)

pub returns : goal.returns
returns c =
    λ f are ts ties.
    ap (λ b. b && f.sub c.args.t.now c.args.s.now) (sym c.if-is_below.false ∙ c.is_below.ensures f are ts ties)
