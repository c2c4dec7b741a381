use Rattle.std.proofs.Common.{false, refl, ap, ◌∙◌}
use Rattle.java_core.specs.View.{plain, plains}
use Rattle.type_kinds.specs.Kinds.{element}
use Rattle.thrown_exceptions.proofs.Steps.{step}
use Rattle.type_constraints.specs.Asked.{asked}
use Rattle.type_constraints.specs.Changed as ch
use Rattle.type_constraints.proofs.Steps.{ended}
use Rattle.type_constraints.proofs.flows.items.Goals as goal

pub loop-x-preserved : goal.loop-x-preserved
loop-x-preserved c =
    λ f are ts ties.
    let a = asked c.args.at.now f ts in
    step (λ xs s. ch.items a c.args.t.now (plains xs) s) (λ x s. ch.flow_to a false (element c.args.t.now) (plain x) s) (λ x xs s. refl)
    c.args.xs.now c.loop-x.x-index c.x-item.result c.loop-x.first c.in_ok-first.first _ c.loop-x-test.true c.x-item.is
    (c.in_ok-first.ensures f are ts ties ∙ ap (λ o. ch.flow_to a false o (plain c.x-item.result) c.loop-x.first) c.element.ensures) (c.loop-x.invariant f are ts ties)

pub returns : goal.returns
returns c =
    λ f are ts ties.
    let a = asked c.args.at.now f ts in
    ended (λ xs s. ch.items a c.args.t.now (plains xs) s) (λ s. refl) c.args.xs.now c.loop-x.x-index c.loop-x.first _ c.loop-x-test.false (c.loop-x.invariant f are ts ties)
