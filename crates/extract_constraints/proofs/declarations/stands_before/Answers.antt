use Rattle.std.proofs.Common.{ap, sym, ◌∙◌}
use Rattle.std.specs.Prelude.{not, ◌&&◌}
use Rattle.extract_constraints.proofs.declarations.stands_before.Goals as goal

pub returns-then-is_other : goal.returns-then-is_other
returns-then-is_other c =
    λ k told.
    c.overrides_alone.ensures k told ∙ ap (λ b. b && (k.ties.overrides c.args.m c.args.j && not (k.ties.overrides c.args.j c.args.m))) (sym c.if-is_other.true ∙ c.is_other.ensures)

pub returns : goal.returns
returns c =
    λ k told.
    ap (λ b. b && (k.ties.overrides c.args.m c.args.j && not (k.ties.overrides c.args.j c.args.m))) (sym c.if-is_other.false ∙ c.is_other.ensures)
