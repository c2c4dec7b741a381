use Rattle.extract_constraints.specs.Told.{where_of}
use Rattle.extract_constraints.proofs.EqualArguments.{one_below}
use Rattle.extract_constraints.proofs.flows.equal_below.Goals as goal

pub loop-class-preserved : goal.loop-class-preserved
loop-class-preserved c =
    λ k told.
    one_below k (where_of c.args.at.now) c.args.s.now c.args.t.now c.loop-class.class c.args.node c.loop-class.links _ c.args.links (c.loop-class.invariant k told) (c.in_ok-links.ensures k told)
