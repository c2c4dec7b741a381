use Rattle.std.specs.Prelude.{slice_get}
use Rattle.member_uses.specs.Targets.{is_constructor}
use Rattle.member_uses.proofs.Steps.{filter_step}
use Rattle.member_uses.proofs.methods.constructors_among.Goals as goal

pub loop-method-preserved : goal.loop-method-preserved
loop-method-preserved c = λ f h.
    filter_step (λ k. is_constructor c.args.arity (slice_get f.world.methods k)) c.args.methods.now c.loop-method.method-index c.loop-method.done _ _
    c.loop-method-test.true (c.in_ok-add_constructor.ensures f h) (c.loop-method.invariant f h)
