use Rattle.std.proofs.Common.{sym, ap, ◌∙◌}
use Rattle.std.specs.Prelude.{◌||◌, not}
use Rattle.java_core.specs.View.{plain}
use Rattle.thrown_exceptions.proofs.Steps.{ok_as}
use Rattle.type_constraints.specs.Asked.{asked}
use Rattle.type_constraints.specs.Changed as ch
use Rattle.type_constraints.proofs.flows.is_joined.Goals as goal

pub returns-then-branch : goal.returns-then-branch
returns-then-branch c =
    λ f are ts ties.
    let a = asked c.args.at.now f ts in
    ok_as c.is_kept_string.result _ _
    (ap (λ b. not b || ch.is_kept_string a (plain c.args.y.now)) (sym c.if-branch.true ∙ c.in_ok-is_changed_string.ensures f are ts ties))
    (c.is_kept_string.ensures f are ts ties)

pub returns : goal.returns
returns c =
    λ f are ts ties.
    let a = asked c.args.at.now f ts in
    ap (λ b. not b || ch.is_kept_string a (plain c.args.y.now)) (sym c.if-branch.false ∙ c.in_ok-is_changed_string.ensures f are ts ties)
