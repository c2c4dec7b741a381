use Rattle.std.proofs.Common.{sym, ap, ◌∙◌}
use Rattle.std.specs.Prelude.{◌&&◌, not}
use Rattle.thrown_exceptions.specs.Thrown as thrown
use Rattle.type_constraints.proofs.results.is_checked.Goals as goal

pub returns-then-is_class_below : goal.returns-then-is_class_below
returns-then-is_class_below c =
    λ f are ts ties.
    ap (λ b. not b && not (thrown.is_below f.sub c.args.c 6)) (sym c.if-is_class_below.true ∙ c.is_class_below.ensures f are ts ties)

pub returns : goal.returns
returns c =
    λ f are ts ties.
    ap not (c.is_class_below-2.ensures f are ts ties) ∙ ap (λ b. not b && not (thrown.is_below f.sub c.args.c 6)) (sym c.if-is_class_below.false ∙ c.is_class_below.ensures f are ts ties)
