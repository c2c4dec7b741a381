use Rattle.std.proofs.Common.{sym, ap, ◌∙◌}
use Rattle.std.specs.Prelude.{◌||◌}
use Rattle.type_constraints.specs.Asked.{asked}
use Rattle.type_constraints.specs.Declarations as de
use Rattle.type_constraints.proofs.declarations.stays.Goals as goal

pub returns-then-is_main : goal.returns-then-is_main
returns-then-is_main c =
    λ f are ts ties.
    let a = asked c.args.at.now f ts in
    ap (λ b. b || de.is_foreign a c.args.m) (sym c.if-is_main.true ∙ c.is_main.ensures f are ts ties)

pub returns : goal.returns
returns c =
    λ f are ts ties.
    let a = asked c.args.at.now f ts in
    c.is_foreign.ensures f are ts ties ∙ ap (λ b. b || de.is_foreign a c.args.m) (sym c.if-is_main.false ∙ c.is_main.ensures f are ts ties)
