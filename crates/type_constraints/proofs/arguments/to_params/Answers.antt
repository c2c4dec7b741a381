use Rattle.std.proofs.Common.{refl}
use Rattle.java_core.specs.View.{plain, plains}
use Rattle.type_places.specs.Changes.{is_param}
use Rattle.type_constraints.specs.Arguments as ar
use Rattle.type_constraints.specs.Asked.{asked}
use Rattle.type_constraints.specs.Changed as ch
use Rattle.type_constraints.proofs.Steps.{ended, step_at}
use Rattle.type_constraints.proofs.arguments.to_params.Goals as goal

pub loop-i-preserved : goal.loop-i-preserved
loop-i-preserved c =
    λ f are ts ties.
    let a = asked c.args.at.now f ts in
    step_at (λ i xs s. ar.to_params a c.args.seen.now c.args.types.now c.args.m i (plains xs) s) (λ i x s. ch.flow_to a (is_param c.args.at.now.change.now c.args.m i) (ar.param_seen c.args.seen.now c.args.types.now i) (plain x) s) (λ i x xs s. refl)
    c.args.xs.now c.loop-i.i c.index-xs-i.result c.loop-i.first c.in_ok-first.first _ c.loop-i-test.true c.index-xs-i.is (c.in_ok-first.ensures f are ts ties) (c.loop-i.invariant f are ts ties)

pub returns : goal.returns
returns c =
    λ f are ts ties.
    let a = asked c.args.at.now f ts in
    ended (λ xs s. ar.to_params a c.args.seen.now c.args.types.now c.args.m c.loop-i.i (plains xs) s) (λ s. refl) c.args.xs.now c.loop-i.i c.loop-i.first _ c.loop-i-test.false (c.loop-i.invariant f are ts ties)
