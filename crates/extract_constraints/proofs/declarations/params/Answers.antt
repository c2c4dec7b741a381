use Rattle.std.proofs.Common.{map, refl}
use Rattle.extract_constraints.specs.Told.{where_of}
use Rattle.java_core.specs.View.{param_plain}
use Rattle.type_constraints.proofs.Steps.{ended, step_at}
use Rattle.extract_constraints.specs.Declarations as de
use Rattle.marked_types.specs.Table as ta
use Rattle.extract_constraints.proofs.declarations.params.Goals as goal

pub loop-index-preserved : goal.loop-index-preserved
loop-index-preserved c =
    λ k told.
    let a = where_of c.args.at.now in
    step_at (λ i xs s. de.params k a c.args.m c.args.info.now c.args.hidden.now i (map param_plain xs) s) (λ i x s. de.param_of (ta.param_mark a.reading.marks c.args.m i) k a c.args.m c.args.info.now c.args.hidden.now i x.node.id s) (λ i x xs s. refl)
    c.args.xs.now c.loop-index.index c.index-xs-index.result c.loop-index.links c.in_ok-links.links _ c.loop-index-test.true c.index-xs-index.is (c.in_ok-links.ensures k told) (c.loop-index.invariant k told)

pub returns : goal.returns
returns c =
    λ k told.
    let a = where_of c.args.at.now in
    ended (λ xs s. de.params k a c.args.m c.args.info.now c.args.hidden.now c.loop-index.index (map param_plain xs) s) (λ s. refl) c.args.xs.now c.loop-index.index c.loop-index.links _ c.loop-index-test.false (c.loop-index.invariant k told)
