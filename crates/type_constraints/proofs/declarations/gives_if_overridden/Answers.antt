use Rattle.std.proofs.Common.{sym, ap, ◌∙◌}
use Rattle.std.specs.Prelude.{◌||◌, not}
use Rattle.type_kinds.specs.Members.{method_at}
use Rattle.thrown_exceptions.proofs.Steps.{ok_as}
use Rattle.type_constraints.specs.Asked.{asked}
use Rattle.type_constraints.specs.Declarations as de
use Rattle.type_constraints.proofs.declarations.gives_if_overridden.Goals as goal

pub returns-then-overrides : goal.returns-then-overrides
returns-then-overrides c =
    λ f are ts ties.
    let a = asked c.args.at.now f ts in
    ok_as c.gives_for.result _ _
    (ap (λ b. not b || de.gives_for a c.args.t.now c.args.m c.args.info.now c.args.k (method_at c.args.at.now.q.world.now c.args.k)) (sym c.if-overrides.true ∙ c.overrides.ensures f are ts ties))
    (c.gives_for.ensures f are ts ties)

pub returns : goal.returns
returns c =
    λ f are ts ties.
    let a = asked c.args.at.now f ts in
    ap (λ b. not b || de.gives_for a c.args.t.now c.args.m c.args.info.now c.args.k (method_at c.args.at.now.q.world.now c.args.k)) (sym c.if-overrides.false ∙ c.overrides.ensures f are ts ties)
