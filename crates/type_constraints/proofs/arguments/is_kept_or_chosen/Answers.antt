use Rattle.std.proofs.Common.{sym, ap, ◌∙◌}
use Rattle.std.specs.Prelude.{◌||◌, not}
use Rattle.java_core.specs.View.{plain}
use Rattle.thrown_exceptions.proofs.Steps.{ok_as}
use Rattle.type_constraints.specs.Arguments as ar
use Rattle.type_constraints.specs.Asked.{asked}
use Rattle.type_constraints.proofs.arguments.is_kept_or_chosen.Goals as goal

pub returns-then-branch : goal.returns-then-branch
returns-then-branch c =
    λ f are ts ties.
    let a = asked c.args.at.now f ts in
    ok_as c.is_chosen_still.result _ _
    (ap (λ b. not b || ar.is_chosen_still a c.args.free c.args.t.now c.args.info.now c.args.info.now.constructor c.args.index (plain c.args.x.now)) (sym c.if-branch.true ∙ c.in_ok-changed.ensures f are ts ties))
    (c.is_chosen_still.ensures f are ts ties)

pub returns : goal.returns
returns c =
    λ f are ts ties.
    let a = asked c.args.at.now f ts in
    ap (λ b. not b || ar.is_chosen_still a c.args.free c.args.t.now c.args.info.now c.args.info.now.constructor c.args.index (plain c.args.x.now)) (sym c.if-branch.false ∙ c.in_ok-changed.ensures f are ts ties)
