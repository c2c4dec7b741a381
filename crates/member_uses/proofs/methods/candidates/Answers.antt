use Rattle.member_uses.proofs.Steps.{candidates_step}
use Rattle.member_uses.proofs.methods.candidates.Goals as goal

pub loop-method-preserved : goal.loop-method-preserved
loop-method-preserved c = λ f h.
    candidates_step f c.args.ty.now c.args.methods.now c.loop-method.method-index c.loop-method.done _ _ c.loop-method-test.true (c.in_ok-add_candidate.ensures f h) (c.loop-method.invariant f h)
