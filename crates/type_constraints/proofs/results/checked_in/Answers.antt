use Rattle.std.proofs.Common.{◌++◌, refl, ap, ◌∙◌}
use Rattle.type_kinds.specs.Kinds.{class_number}
use Rattle.thrown_exceptions.specs.Thrown as thrown
use Rattle.type_constraints.proofs.Steps.{gather, gathered}
use Rattle.type_constraints.proofs.results.checked_in.Goals as goal

pub loop-t-preserved : goal.loop-t-preserved
loop-t-preserved c =
    λ f are ts ties.
    gather (λ x. thrown.checked_of f.sub (class_number x)) (thrown.checked_in f.sub) (λ x xs. refl) c.args.types.now c.loop-t.t-index c.t-item.result c.loop-t.out _ _ c.loop-t-test.true c.t-item.is
    (c.in_ok-push_checked.ensures {u = tt} f are ts ties ∙ ap (λ k. c.loop-t.out ++ thrown.checked_of f.sub k) c.class_number.ensures) (c.loop-t.invariant f are ts ties)

pub returns : goal.returns
returns c =
    λ f are ts ties.
    gathered (thrown.checked_in f.sub) refl c.args.types.now c.loop-t.t-index c.loop-t.out _ c.loop-t-test.false (c.loop-t.invariant f are ts ties)
