use Rattle.std.proofs.Common.{sym, ap, ◌∙◌}
use Rattle.std.specs.Prelude.{◌&&◌}
use Rattle.thrown_exceptions.proofs.Steps.{ok_as}
use Rattle.type_constraints.specs.Asked.{asked}
use Rattle.type_constraints.specs.Declarations as de
use Rattle.type_constraints.proofs.declarations.is_hidden_by_change.Goals as goal

pub returns-then-either_changes : goal.returns-then-either_changes
returns-then-either_changes c =
    λ f are ts ties.
    let a = asked c.args.at.now f ts in
    ok_as c.is_hidden.result _ _
    (ap (λ b. b && de.is_hidden a c.args.info.now c.args.k) (sym c.if-either_changes.true ∙ c.either_changes.ensures f are ts ties))
    (c.is_hidden.ensures f are ts ties)

pub returns : goal.returns
returns c =
    λ f are ts ties.
    let a = asked c.args.at.now f ts in
    ap (λ b. b && de.is_hidden a c.args.info.now c.args.k) (sym c.if-either_changes.false ∙ c.either_changes.ensures f are ts ties)
