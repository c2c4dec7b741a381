use Rattle.std.proofs.Common.{sym, ap, ◌∙◌}
use Rattle.std.specs.Prelude.{◌&&◌}
use Rattle.member_uses.specs.Targets.{is_static_method}
use Rattle.thrown_exceptions.proofs.Steps.{ok_as}
use Rattle.type_constraints.specs.Asked.{asked}
use Rattle.type_constraints.specs.Declarations as de
use Rattle.type_constraints.proofs.declarations.gives_for_all.Goals as goal

pub returns-then-branch : goal.returns-then-branch
returns-then-branch c =
    λ f are ts ties.
    let a = asked c.args.at.now f ts in
    ok_as c.gives_for_hidden.result _ _
    (ap (de.gives_for_hidden a c.args.t.now c.args.m c.args.info.now) (c.in_ok-above.ensures f are ts ties) ∙ ap (λ b. b && de.gives_for_hidden a c.args.t.now c.args.m c.args.info.now (de.above_it a c.args.info.now (is_static_method c.args.info.now))) (sym c.if-branch.true ∙ c.in_ok-gives_for_overridden.ensures f are ts ties ∙ ap (de.gives_for_overridden a c.args.t.now c.args.m c.args.info.now) (c.family.ensures f are ts ties)))
    (c.gives_for_hidden.ensures f are ts ties)

pub returns : goal.returns
returns c =
    λ f are ts ties.
    let a = asked c.args.at.now f ts in
    ap (λ b. b && de.gives_for_hidden a c.args.t.now c.args.m c.args.info.now (de.above_it a c.args.info.now (is_static_method c.args.info.now))) (sym c.if-branch.false ∙ c.in_ok-gives_for_overridden.ensures f are ts ties ∙ ap (de.gives_for_overridden a c.args.t.now c.args.m c.args.info.now) (c.family.ensures f are ts ties))
