use Rattle.std.proofs.Common.{sym, ap, ◌∙◌}
use Rattle.std.specs.Prelude.{◌&&◌}
use Rattle.type_constraints.specs.Asked.{asked}
use Rattle.type_constraints.specs.Uses as us
use Rattle.type_constraints.proofs.arguments.is_open_constructor.Goals as goal

pub returns-then-is_constructor : goal.returns-then-is_constructor
returns-then-is_constructor c =
    λ f are ts ties.
    let a = asked c.args.at.now f ts in
    c.sees.ensures f are ts ties ∙ ap (λ b. b && us.sees a c.args.k) (sym c.if-is_constructor.true ∙ c.is_constructor.ensures)
