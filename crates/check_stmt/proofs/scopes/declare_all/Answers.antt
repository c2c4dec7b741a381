use Rattle.check_stmt.proofs.Fronts.{front_then}
use Rattle.check_stmt.proofs.Steps.{after_step}
use Rattle.check_stmt.proofs.scopes.declare_all.Goals as goal

pub loop-s-preserved : goal.loop-s-preserved
loop-s-preserved c = record {
  scope = λ f d.
      after_step f c.args.place.now c.loop-s.locals c.declare_stmt.new.locals _ c.args.ss.now c.loop-s.s-index c.s-item.result
      c.loop-s-test.true c.s-item.is (c.in_ok-declare_stmt.ensures.scope f d) (c.loop-s.invariant.scope f d);
  front = front_then _ _ _ c.loop-s.invariant.front c.declare_stmt.ensures.front;
}
