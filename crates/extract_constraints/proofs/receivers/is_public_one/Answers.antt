use Rattle.std.proofs.Common.{sym, ap, ◌∙◌}
use Rattle.std.specs.Prelude.{◌&&◌}
use Rattle.extract_constraints.specs.Receivers as spec
use Rattle.extract_constraints.proofs.receivers.is_public_one.Goals as goal

pub returns-then-is_public_method : goal.returns-then-is_public_method
returns-then-is_public_method c =
    λ k told.
    c.is_one.ensures k told ∙ ap (λ b. b && spec.is_one k c.args.m c.args.j) (sym c.if-is_public_method.true ∙ c.is_public_method.ensures ∙ ap spec.is_public_method c.method_info.ensures)

pub returns : goal.returns
returns c =
    λ k told.
    ap (λ b. b && spec.is_one k c.args.m c.args.j) (sym c.if-is_public_method.false ∙ c.is_public_method.ensures ∙ ap spec.is_public_method c.method_info.ensures)
