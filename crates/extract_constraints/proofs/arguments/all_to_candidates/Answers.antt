use Rattle.std.proofs.Common.{refl}
use Rattle.extract_constraints.specs.Told.{where_of}
use Rattle.java_core.specs.View.{plain, plains}
use Rattle.type_constraints.proofs.Steps.{ended, step_at}
use Rattle.extract_constraints.specs.Arguments.{call_of}
use Rattle.extract_constraints.specs.Arguments as ar
use Rattle.extract_constraints.proofs.arguments.all_to_candidates.Goals as goal

pub loop-index-preserved : goal.loop-index-preserved
loop-index-preserved c =
    λ k told.
    let a = where_of c.args.at.now in
    let call = call_of c.args.call.now in
    step_at (λ i xs s. ar.all_to_candidates k a c.args.locals.now call i (plains xs) s) (λ i x s. ar.to_candidates k a c.args.locals.now call i (plain x) s) (λ i x xs s. refl)
    c.args.xs.now c.loop-index.index c.index-xs-index.result c.loop-index.links c.in_ok-links.links _ c.loop-index-test.true c.index-xs-index.is (c.in_ok-links.ensures k told) (c.loop-index.invariant k told)

pub returns : goal.returns
returns c =
    λ k told.
    let a = where_of c.args.at.now in
    let call = call_of c.args.call.now in
    ended (λ xs s. ar.all_to_candidates k a c.args.locals.now call c.loop-index.index (plains xs) s) (λ s. refl) c.args.xs.now c.loop-index.index c.loop-index.links _ c.loop-index-test.false (c.loop-index.invariant k told)
