use Rattle.running_code.proofs.Standing.{kept}
use Rattle.running_code.proofs.places.places_of.Goals as goal

pub loop-at-preserved : goal.loop-at-preserved
loop-at-preserved c = kept c.loop-at.at c.args.numbers.now c.loop-at.t c.put.new.t c.loop-at-test.true c.loop-at.invariant c.in_ok-put.ensures
