use Rattle.std.proofs.Common.{◌+◌, drop, refl, sym, ◌∙◌}
use Rattle.java_core.specs.View.{plain, plains}
use Rattle.thrown_exceptions.proofs.Steps.{rest_at}
use Rattle.type_constraints.specs.Arguments as ar
use Rattle.type_constraints.specs.Asked.{asked}
use Rattle.type_constraints.specs.Changed as ch
use Rattle.type_constraints.proofs.Steps.{some_end, some_hit, some_next}
use Rattle.type_constraints.proofs.arguments.some_changed.Goals as goal

pub returns-then-branch : goal.returns-then-branch
returns-then-branch c =
    λ f are ts ties.
    let a = asked c.args.at.now f ts in
    some_hit (λ x. ch.changed a (plain x)) (λ xs. ar.some_changed a (plains xs)) (λ x xs. refl) (drop c.loop-x.x-index c.args.xs.now) (drop (c.loop-x.x-index + 1) c.args.xs.now) c.x-item.result _ (rest_at c.args.xs.now c.loop-x.x-index c.x-item.result c.loop-x-test.true c.x-item.is) (sym (c.in_ok-changed.ensures f are ts ties) ∙ c.if-branch.true) (c.loop-x.invariant f are ts ties)

pub loop-x-preserved : goal.loop-x-preserved
loop-x-preserved c =
    λ f are ts ties.
    let a = asked c.args.at.now f ts in
    some_next (λ x. ch.changed a (plain x)) (λ xs. ar.some_changed a (plains xs)) (λ x xs. refl) (drop c.loop-x.x-index c.args.xs.now) (drop (c.loop-x.x-index + 1) c.args.xs.now) c.x-item.result _ (rest_at c.args.xs.now c.loop-x.x-index c.x-item.result c.loop-x-test.true c.x-item.is) (sym (c.in_ok-changed.ensures f are ts ties) ∙ c.if-branch.false) (c.loop-x.invariant f are ts ties)

pub returns : goal.returns
returns c =
    λ f are ts ties.
    let a = asked c.args.at.now f ts in
    some_end (λ xs. ar.some_changed a (plains xs)) refl c.args.xs.now c.loop-x.x-index _ c.loop-x-test.false (c.loop-x.invariant f are ts ties)
